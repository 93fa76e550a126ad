use Rattle.std.proofs.Common.{arith}
use Rattle.cds_book.proofs.EditionLaws.{few-before, numbers-after}
use Rattle.cds_book.proofs.tables.Tables.numbers_after.Goals as goal

pub overflow_add-result : goal.overflow_add-result
overflow_add-result c =
    let few = few-before c.args.self.now.state c.args.change.now c.args.name c.rules.ensures c.requires.accepted c.requires.own in
    omega (arith, few, c.basis.ensures, c.one_if.ensures.few)

pub returns : goal.returns
returns c =
    rw (c.next_edition.ensures, c.basis.ensures, c.one_if.ensures.value, c.in_ok-differs.ensures)
    (numbers-after c.args.self.now.state c.args.change.now c.args.name c.rules.ensures c.requires.accepted c.requires.own)
