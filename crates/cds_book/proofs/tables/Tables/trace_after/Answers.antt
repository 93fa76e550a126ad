use Rattle.std.proofs.Common.{◌∙◌, sym}
use Rattle.cds_book.proofs.AfterLaws.{differs-name, trace_of-kept, trace_of-left}
use Rattle.cds_book.proofs.tables.Tables.trace_after.Goals as goal

-- the trace of another name is put
pub returns-then-ne : goal.returns-then-ne
returns-then-ne c = rw c.in-Trace.is (c.trace.ensures ∙ sym (trace_of-left _ _ _ _ (differs-name _ _ (sym c.ne.ensures ∙ c.if-ne.true))))

-- no trace is put
pub returns-in_default : goal.returns-in_default
returns-in_default c = c.trace-in_default.ensures ∙ sym (trace_of-kept _ _ _ _ c.in_default.not-Trace)
