use Rattle.std.proofs.Common.{◌∙◌, sym, ap}
use Rattle.cds_book.proofs.LookLaws.{rising_traces, traces_named-none, traces_named-some, trace_of-found}
use Rattle.cds_book.specs.Tables.{numbered}
use Rattle.cds_book.proofs.tables.Tables.trace.Goals as goal

-- the name isn't there
pub returns-in_default : goal.returns-in_default
returns-in_default c = sym (trace_of-found _ _ _ (traces_named-none c.self.inside _ c.self.view_is _ c.in_default.ensures) c.args.version)

-- its versions are those that were found
pub returns : goal.returns
returns c =
    let found = traces_named-some c.self.inside _ c.self.view_is _ c.in-Some.versions.now c.in-Some.ensures in
    c.numbered.ensures ∙ ap (λ versions. numbered versions c.args.version) c.deref.ensures.value ∙ sym (trace_of-found _ _ _ found.1 c.args.version)

-- the names rise
pub find-requires : goal.find-requires
find-requires c = rising_traces c.self.inside c.self.invariant
