use Rattle.std.proofs.Common.{◌∙◌, ◌+◌, sym, ap, length}
use Rattle.cds_book.proofs.AfterLaws.{trace_of-next, trace_of-others}
use Rattle.cds_book.proofs.tables.Tables.trace_put.Goals as goal

-- another version than the next one
pub returns-then-version-signals : goal.returns-then-version-signals
returns-then-version-signals c = c.trace.ensures ∙ sym (trace_of-others _ _ _ c.args.version (λ next. c.if-version-signals.true (next ∙ ap (λ signals. length signals + 1) (sym c.signals.ensures))))

-- the next one
pub returns : goal.returns
returns c = sym (trace_of-next _ _ _ c.args.version (c.if-version-signals.false ∙ ap (λ signals. length signals + 1) c.signals.ensures))
