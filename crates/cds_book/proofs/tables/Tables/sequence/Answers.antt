use Rattle.std.proofs.Common.{sym}
use Rattle.cds_book.proofs.LookLaws.{rising_sequences, sequence_named-none, sequence_named-some, sequence_of-found}
use Rattle.cds_book.proofs.tables.Tables.sequence.Goals as goal

-- the names rise
pub find-requires : goal.find-requires
find-requires c = rising_sequences c.self.inside c.self.invariant

-- the sequence isn't there
pub returns-in_default : goal.returns-in_default
returns-in_default c = sym (sequence_of-found _ _ _ (sequence_named-none c.self.inside _ c.self.view_is _ c.in_default.ensures))

-- it is the one that was found
pub returns : goal.returns
returns c =
    let found = sequence_named-some c.self.inside _ c.self.view_is _ c.in-Some.kept.now c.in-Some.ensures in
    sym (sequence_of-found _ _ _ found.1)
