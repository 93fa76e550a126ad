-- What is read after a change: what was put, and what stands under other names.
use Rattle.std.proofs.Common.{◌≡◌, ◌∙◌, ℕ, ◌+◌, List, [], ◌∷◌, ◌++◌, length, Some, unwrap_or, sym, ap, subst}
use Rattle.cds_trace.specs.Signal.{Signal}
use Rattle.cds_book.specs.Plan.{carried, with_signals, with_method, Accepts}
use Rattle.cds_book.specs.Tables.{NamedTraces, TablesState, numbered, trace_of, trace_versions_of, signals_of, draft_of, method_of, texts_of}
use Rattle.cds_sign.specs.declared.command.Change.TheVariants as change
use Rattle.cds_base.proofs.NamedLaws.{named-placed}
use Rattle.cds_book.proofs.LookLaws.{trace_of-found, method_of-found}
use Rattle.cds_book.proofs.NumberLaws.{numbered-push}
use Rattle.cds_book.proofs.TraceLaws.{trace_name, carried-trace}
use Rattle.cds_book.proofs.MethodLaws.{method_named-with, draft_of-with, carried-draft, carried-freeze, IsNewText-accepted}
use Rattle.cds_book.proofs.StayLaws.{trace_versions_of-signals}

-- a draft that was put is read back
pub draft_of-carried : (t : TablesState) (name text : List ℕ) → draft_of (carried t (change.Draft name text)) name ≡ Some text
draft_of-carried t name text = rw (carried-draft t name text) (draft_of-with t name text (texts_of t name))

-- a trace that was put is read back under the next number of its name
pub trace_of-carried : (t : TablesState) (name : List ℕ) (signal : Signal) → trace_of (carried t (change.Trace name signal)) name (unwrap_or (trace_versions_of t name) 0 + 1) ≡ Some signal
trace_of-carried t name signal =
    let versions = signals_of t name ++ signal ∷ [] in
    let entry : NamedTraces = record { name = name; versions = versions } in
    let next : unwrap_or (trace_versions_of t name) 0 + 1 ≡ length (signals_of t name) + 1 = ap (λ n. n + 1) (trace_versions_of-signals t name) in
    let found = trace_of-found (with_signals t name versions) name (Some entry) (named-placed trace_name t.traces entry) (length (signals_of t name) + 1) in
    rw (carried-trace t name signal, next) (found ∙ numbered-push (signals_of t name) signal)

-- a draft that was frozen is read back under the number that was named
pub method_of-carried : (t : TablesState) (name : List ℕ) (version : ℕ) → Accepts t (change.Freeze name version) → method_of (carried t (change.Freeze name version)) name version ≡ draft_of t name
method_of-carried t name version accepts =
    let new = IsNewText-accepted t name version accepts.accepted in
    let texts = texts_of t name ++ new.draft ∷ [] in
    let found = method_of-found (with_method t name new.draft texts) name _ (method_named-with t name new.draft texts) version in
    let here : numbered texts version ≡ Some new.draft = subst (λ n. numbered texts n ≡ Some new.draft) (sym new.next) (numbered-push (texts_of t name) new.draft) in
    rw (carried-freeze t name version new.draft new.is) (found ∙ here ∙ sym new.is)
