use Rattle.std.proofs.Common.{ℕ, List, length, ◌++◌, ◌∙◌, ap}
use Rattle.cds_base.proofs.Reading.{drop_zeros}
use Rattle.cds_base.proofs.name.padded.Goals as goal

pub returns : goal.returns
returns c = c.put_front.ensures ∙ ap (λ (z : List ℕ). c.args.bytes.now ++ z) (drop_zeros (length c.args.bytes.now) 64)
