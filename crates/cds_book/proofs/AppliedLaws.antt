-- The tables after an accepted change keep all rules.
use Rattle.std.proofs.Common.{◌≡◌, ℕ, ◌+◌, ◌≤◌, List, [], ◌∷◌, ◌++◌, map, Some, sym, ap, subst, arith}
use Rattle.std.specs.Prelude.{All}
use Rattle.std.proofs.lemmas.List.{length-append}
use Rattle.cds_trace.specs.Signal.{Signal}
use Rattle.cds_sign.specs.declared.command.Change.TheVariants as change
use Rattle.cds_book.specs.Held.{bindings_over}
use Rattle.cds_book.specs.Kept.{IsTables, changes_in_all}
use Rattle.cds_book.specs.Plan.{applied, carried, inputs_differ, raised, with_method, Accepts}
use Rattle.cds_book.specs.Tables.{NamedSequence, TablesState, texts_of, draft_of}
use Rattle.cds_book.proofs.BindingLaws.{bindings-draft}
use Rattle.cds_book.proofs.MethodLaws.{carried-freeze, method_versions-with, IsNewText-accepted, IsTables-draft, IsTables-freeze}
use Rattle.cds_book.proofs.ResolvedLaws.{Grows-trace, Grows-draft, Grows-frozen}
use Rattle.cds_book.proofs.RaisedLaws.{IsTables-rises, applied-same, one_more}
use Rattle.cds_book.proofs.TraceLaws.{trace_versions-trace, IsTables-trace}

pub IsTables-applied_trace : (t : TablesState) (name : List ℕ) (signal : Signal) → IsTables t → Accepts t (change.Trace name signal) → IsTables (applied t (change.Trace name signal))
IsTables-applied_trace t name signal kept accepts =
    let c = change.Trace name signal in
    let more = trace_versions-trace t kept name signal in
    IsTables-rises t c (IsTables-trace t name signal kept accepts (Grows-trace t name signal))
    (one_more (λ e. inputs_differ t (carried t c) e.name) (changes_in_all t) (changes_in_all (carried t c)) t.sequences (omega (arith, more)) kept.bases)

-- a draft raises no basis
pub applied-draft : (t : TablesState) (name text : List ℕ) → applied t (change.Draft name text) ≡ with_method t name text (texts_of t name)
unfolding bindings_over
applied-draft t name text = applied-same t (change.Draft name text) (bindings-draft t name text)

pub IsTables-applied_draft : (t : TablesState) (name text : List ℕ) → IsTables t → Accepts t (change.Draft name text) → IsTables (applied t (change.Draft name text))
IsTables-applied_draft t name text kept accepts = subst IsTables (sym (applied-draft t name text)) (IsTables-draft t name text kept accepts (Grows-draft t name text))

pub IsTables-applied_freeze : (t : TablesState) (name : List ℕ) (version : ℕ) → IsTables t → Accepts t (change.Freeze name version) → IsTables (applied t (change.Freeze name version))
IsTables-applied_freeze t name version kept accepts =
    let c = change.Freeze name version in
    let new = IsNewText-accepted t name version accepts.accepted in
    let texts = texts_of t name ++ new.draft ∷ [] in
    let is = carried-freeze t name version new.draft new.is in
    let more = method_versions-with t kept name new.draft texts 1 (length-append (texts_of t name) (new.draft ∷ [])) in
    let grown : changes_in_all t + 1 ≤ changes_in_all (carried t c) = rw is (omega (arith, more)) in
    let same : (carried t c).sequences ≡ t.sequences = ap (λ (s : TablesState). s.sequences) is in
    IsTables-rises t c (IsTables-freeze t name version kept accepts (Grows-frozen t name))
    (one_more (λ e. inputs_differ t (carried t c) e.name) (changes_in_all t) (changes_in_all (carried t c)) (carried t c).sequences grown (subst (All (λ (e : NamedSequence). e.sequence.basis ≤ changes_in_all t)) (sym same) kept.bases))

-- a freeze makes the draft the next version, and raises the bases of those whose inputs it makes others
pub applied-freeze : (t : TablesState) (name : List ℕ) (version : ℕ) (draft : List ℕ) → draft_of t name ≡ Some draft → applied t (change.Freeze name version) ≡
    record (with_method t name draft (texts_of t name ++ draft ∷ [])) { sequences = map (λ (e : NamedSequence). raised (inputs_differ t (carried t (change.Freeze name version)) e.name) e) t.sequences }
unfolding applied
applied-freeze t name version draft is =
    let c = change.Freeze name version in
    ap (λ (s : TablesState). record s { sequences = map (λ (e : NamedSequence). raised (inputs_differ t (carried t c) e.name) e) s.sequences }) (carried-freeze t name version draft is)
