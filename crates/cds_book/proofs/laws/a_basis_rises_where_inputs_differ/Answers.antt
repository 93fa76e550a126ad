use Rattle.cds_book.proofs.BasisLaws.{basis-applied}
use Rattle.cds_book.proofs.laws.a_basis_rises_where_inputs_differ.Goals as goal

pub returns : goal.returns
returns c = basis-applied
