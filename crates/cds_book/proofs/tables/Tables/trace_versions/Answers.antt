use Rattle.std.proofs.Common.{◌∙◌, sym, ap, Some, arith}
use Rattle.cds_book.proofs.LookLaws.{rising_traces, traces_named-none, traces_named-some, trace_versions_of-found, IsTraceEntry-found}
use Rattle.cds_book.proofs.tables.Tables.trace_versions.Goals as goal

-- the name isn't there
pub returns-in_default-clause-value : goal.returns-in_default-clause-value
returns-in_default-clause-value c = sym (trace_versions_of-found _ _ _ (traces_named-none c.self.inside _ c.self.view_is _ c.in_default.ensures))

-- a trace name has at most 1,000 versions
pub overflow_cast-result : goal.overflow_cast-result
overflow_cast-result c =
    let found = traces_named-some c.self.inside _ c.self.view_is _ c.in-Some.versions.now c.in-Some.ensures in
    let kept = IsTraceEntry-found c.self.inside _ c.self.view_is _ c.self.invariant _ found.1 in
    omega (arith, kept.few, c.in-Some.versions.now.ok.0, c.len.ensures)

-- its versions are those that were found
pub returns-clause-value : goal.returns-clause-value
returns-clause-value c =
    let found = traces_named-some c.self.inside _ c.self.view_is _ c.in-Some.versions.now c.in-Some.ensures in
    ap Some (c.len.ensures ∙ c.in-Some.versions.now.ok.0) ∙ sym (trace_versions_of-found _ _ _ found.1)

-- and the number of them is kept below the limit
pub returns-clause-few : goal.returns-clause-few
returns-clause-few c =
    let found = traces_named-some c.self.inside _ c.self.view_is _ c.in-Some.versions.now c.in-Some.ensures in
    let kept = IsTraceEntry-found c.self.inside _ c.self.view_is _ c.self.invariant _ found.1 in
    omega (arith, kept.few, c.in-Some.versions.now.ok.0, c.len.ensures)

-- the names rise
pub find-requires : goal.find-requires
find-requires c = rising_traces c.self.inside c.self.invariant
