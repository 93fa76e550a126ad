use Rattle.std.proofs.Common.{◌∙◌, sym}
use Rattle.cds_book.proofs.LookLaws.{rising_traces, traces_named-none, traces_named-some, signals_of-found}
use Rattle.cds_book.proofs.tables.Tables.signals.Goals as goal

-- the name isn't there
pub returns-in_default : goal.returns-in_default
returns-in_default c = sym (signals_of-found _ _ _ (traces_named-none c.self.inside _ c.self.view_is _ c.in_default.ensures))

-- its versions are those that were found
pub returns : goal.returns
returns c =
    let found = traces_named-some c.self.inside _ c.self.view_is _ c.in-Some.versions.now c.in-Some.ensures in
    c.deref.ensures.value ∙ sym (signals_of-found _ _ _ found.1)

-- the names rise
pub find-requires : goal.find-requires
find-requires c = rising_traces c.self.inside c.self.invariant
