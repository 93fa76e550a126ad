-- What the tables are once a trace is put: its versions, the counts, and that all rules are kept.
use Rattle.std.proofs.Common.{◌≡◌, ◌∙◌, ℕ, ◌+◌, ◌≤◌, true, false, inl, inr, List, [], ◌∷◌, ◌++◌, length, Option, Some, None, Ok, option_map, unwrap_or, refl, sym, ap, subst, arith}
use Rattle.std.specs.Prelude.{All}
use Rattle.std.specs.List.{sum_by}
use Rattle.std.specs.Option.{option_map_or}
use Rattle.std.proofs.lemmas.Bool.{cases_Bool}
use Rattle.std.proofs.lemmas.List.{length-append}
use Rattle.std.proofs.lemmas.List.Elements.{All-nil, All-cons, All-append}
use Rattle.std.proofs.lemmas.List.Sums.{sum_by-append}
use Rattle.cds_trace.specs.Signal.{Signal, IsTrace}
use Rattle.cds_book.specs.Kept.{AreChanges, IsTraceEntry, IsTables, trace_versions_in_all, samples_in_all, changes_in_all}
use Rattle.cds_book.specs.Plan.{planned, carried, with_signals, counts_of, limit_passed, unless_full, same_signal, is_latest, Accepts}
use Rattle.cds_book.specs.Tables.{NamedTraces, TablesState, traces_named, signals_of}
use Rattle.cds_sign.specs.declared.command.Command.TheVariants as command
use Rattle.cds_sign.specs.declared.command.Change.TheVariants as change
use Rattle.cds_book.specs.declared.command.Plan.TheVariants as plan
use Rattle.cds_book.specs.declared.limits.TheConstants.{MOST_TRACE_NAMES, MOST_TRACE_VERSIONS, MOST_SAMPLES_IN_ALL}
use Rattle.cds_sign.specs.declared.limits.TheConstants.{MOST_VERSIONS}
use Rattle.cds_base.proofs.NamedLaws.{named-placed, named-All, All-placed, AreRising-placed, sum_by-placed, length-placed}
use Rattle.cds_book.proofs.LookLaws.{signals_of-found}
use Rattle.cds_book.proofs.GrownLaws.{Grows, AreBound-grown, AreListed-grown}
use Rattle.cds_book.proofs.RaisedLaws.{no_more}
use Rattle.cds_book.proofs.VersionLaws.{same_signal-Decides, AreChanges-push, AreChanges-none, AreWithin, AreWithin-none, unless_full-ok}

-- the tables once a trace is put
pub carried-trace : (t : TablesState) (name : List ℕ) (signal : Signal) → carried t (change.Trace name signal) ≡ with_signals t name (signals_of t name ++ signal ∷ [])
carried-trace t name signal = refl

-- the name of an entry
abbrev pub trace_name : NamedTraces → List ℕ
trace_name e = e.name

-- a trace name that was put has the versions that were put
pub signals_of-with : (t : TablesState) (name : List ℕ) (versions : List Signal) → signals_of (with_signals t name versions) name ≡ versions
signals_of-with t name versions = signals_of-found (with_signals t name versions) name _ (named-placed trace_name t.traces (record { name = name; versions = versions }))

-- how many names there are without versions: none, or one that isn't there yet
abbrev pub new_name : List Signal → ℕ
new_name [] = 1
new_name (s ∷ ss) = 0

-- the samples of versions
abbrev pub samples_of : List Signal → ℕ
samples_of versions = sum_by (λ signal. length signal.samples) versions

-- a sum over what stands under a name is that over its versions
by_versions : (f : List Signal → ℕ) (t : TablesState) (name : List ℕ) → f [] ≡ 0 → option_map_or (λ (e : NamedTraces). f e.versions) (traces_named t name) 0 ≡ f (signals_of t name)
unfolding signals_of
by_versions f t name nothing = by_found (traces_named t name)
  where
    by_found : (found : Option NamedTraces) → option_map_or (λ (e : NamedTraces). f e.versions) found 0 ≡ f (unwrap_or (option_map (λ entry. entry.versions) found) [])
    by_found None = sym nothing
    by_found (Some e) = refl

-- versions that are some make no new name
some_versions : (versions : List Signal) → 1 ≤ length versions → 1 + new_name versions ≡ 1
some_versions [] some = absurd (omega arith)
some_versions (s ∷ ss) some = refl

module _ (t : TablesState) (kept : IsTables t) (name : List ℕ) (signal : Signal) where
  -- a sum over all names with one more version
  sum_by-trace : (f : List Signal → ℕ) (more : ℕ) → f [] ≡ 0 → f (signals_of t name ++ signal ∷ []) ≡ f (signals_of t name) + more →
      sum_by (λ (e : NamedTraces). f e.versions) (with_signals t name (signals_of t name ++ signal ∷ [])).traces ≡ sum_by (λ (e : NamedTraces). f e.versions) t.traces + more
  sum_by-trace f more nothing grown =
      let entry : NamedTraces = record { name = name; versions = signals_of t name ++ signal ∷ [] } in
      let change = sum_by-placed trace_name (λ (e : NamedTraces). f e.versions) t.traces entry kept.traces.names in
      omega (arith, change, by_versions f t name nothing, grown)

  pub trace_versions-trace : trace_versions_in_all (with_signals t name (signals_of t name ++ signal ∷ [])).traces ≡ trace_versions_in_all t.traces + 1
  trace_versions-trace = sum_by-trace length 1 refl (length-append (signals_of t name) (signal ∷ []))

  pub samples-trace : samples_in_all (with_signals t name (signals_of t name ++ signal ∷ [])).traces ≡ samples_in_all t.traces + length signal.samples
  samples-trace = sum_by-trace samples_of (length signal.samples) refl (omega (arith, sum_by-append (λ (s : Signal). length s.samples) (signals_of t name) (signal ∷ [])))

  -- how many names there are with one more version
  pub names-trace : length (with_signals t name (signals_of t name ++ signal ∷ [])).traces ≡ length t.traces + new_name (signals_of t name)
  unfolding signals_of
  names-trace =
      let entry : NamedTraces = record { name = name; versions = signals_of t name ++ signal ∷ [] } in
      let change = length-placed trace_name t.traces entry kept.traces.names in
      let there : option_map_or (λ (_ : NamedTraces). 1) (traces_named t name) 0 + new_name (signals_of t name) ≡ 1 = by_found (traces_named t name) refl in
      omega (arith, change, there)
    where
      by_found : (found : Option NamedTraces) → traces_named t name ≡ found → option_map_or (λ (_ : NamedTraces). 1) found 0 + new_name (unwrap_or (option_map (λ (e : NamedTraces). e.versions) found) []) ≡ 1
      by_found None is = refl
      by_found (Some e) is = some_versions e.versions (named-All trace_name IsTraceEntry t.traces name e kept.traces.each is).some

  -- the counts that a trace raises
  pub counts-trace : counts_of (change.Trace name signal) (carried t (change.Trace name signal)) ≡
      (length t.traces + new_name (signals_of t name), MOST_TRACE_NAMES) ∷ (length (signals_of t name) + 1, MOST_VERSIONS) ∷ (trace_versions_in_all t.traces + 1, MOST_TRACE_VERSIONS) ∷ (samples_in_all t.traces + length signal.samples, MOST_SAMPLES_IN_ALL) ∷ []
  counts-trace =
      let versions = signals_of t name ++ signal ∷ [] in
      let same : length (signals_of (with_signals t name versions) name) ≡ length (signals_of t name) + 1 = ap length (signals_of-with t name versions) ∙ length-append (signals_of t name) (signal ∷ []) in
      rw (carried-trace t name signal, names-trace, same, trace_versions-trace, samples-trace) refl

-- what a trace is answered, by its versions and by the counts that it raises
module _ (t : TablesState) (name : List ℕ) (signal : Signal) (versions : List Signal) (are : versions ≡ signals_of t name) where
  -- a trace that is the latest version changes nothing
  pub planned-latest_trace : true ≡ is_latest same_signal versions signal → planned t (command.Trace name signal) ≡ Ok plan.Unchanged
  unfolding planned
  planned-latest_trace same =
      let latest : is_latest same_signal (signals_of t name) signal ≡ true = ap (λ vs. is_latest same_signal vs signal) (sym are) ∙ sym same in
      rw latest refl

  -- another trace is judged by the limits
  pub planned-other_trace : (counts : List (ℕ × ℕ)) (limit : Option ℕ) → false ≡ is_latest same_signal versions signal → counts ≡ counts_of (change.Trace name signal) (carried t (change.Trace name signal)) → limit ≡ limit_passed counts → planned t (command.Trace name signal) ≡ unless_full limit (change.Trace name signal)
  unfolding planned
  planned-other_trace counts limit other raised is =
      let latest : is_latest same_signal (signals_of t name) signal ≡ false = ap (λ vs. is_latest same_signal vs signal) (sym are) ∙ sym other in
      rw (latest, is, raised) refl

-- what an accepted trace is: another than the latest version, whose counts are within the limits
pub record IsNewTrace (t : TablesState) (name : List ℕ) (signal : Signal) : Type 0 where
  pub other : is_latest same_signal (signals_of t name) signal ≡ false
  pub within : AreWithin (counts_of (change.Trace name signal) (carried t (change.Trace name signal)))

pub IsNewTrace-accepted : (t : TablesState) (name : List ℕ) (signal : Signal) → Accepts t (change.Trace name signal) → IsNewTrace t name signal
IsNewTrace-accepted t name signal accepts = elim (cases_Bool (is_latest same_signal (signals_of t name) signal)) [
  | inl same ↦
      let unchanged : planned t (command.Trace name signal) ≡ Ok plan.Unchanged = planned-latest_trace t name signal _ refl (sym same) in
      let contrary : Ok plan.Unchanged ≡ Ok (plan.Change (change.Trace name signal)) = sym unchanged ∙ accepts.accepted in
      cc
  | inr other ↦
      let counts = counts_of (change.Trace name signal) (carried t (change.Trace name signal)) in
      let judged = planned-other_trace t name signal (signals_of t name) refl counts _ (sym other) refl refl in
      record {
        other = other;
        within = AreWithin-none counts (unless_full-ok _ (change.Trace name signal) (sym judged ∙ accepts.accepted));
      }
]

-- the versions of a name differ each from the one before
AreChanges-signals : (t : TablesState) → IsTables t → (name : List ℕ) → AreChanges (signals_of t name)
unfolding signals_of
AreChanges-signals t kept name = by_found (traces_named t name) refl
  where
    by_found : (found : Option NamedTraces) → traces_named t name ≡ found → AreChanges (unwrap_or (option_map (λ (e : NamedTraces). e.versions) found) [])
    by_found None is = AreChanges-none
    by_found (Some e) is = (named-All trace_name IsTraceEntry t.traces name e kept.traces.each is).changes

-- and each is a trace
All-signals : (t : TablesState) → IsTables t → (name : List ℕ) → All IsTrace (signals_of t name)
unfolding signals_of
All-signals t kept name = by_found (traces_named t name) refl
  where
    by_found : (found : Option NamedTraces) → traces_named t name ≡ found →
        All IsTrace (unwrap_or (option_map (λ (e : NamedTraces). e.versions) found) [])
    by_found None is = All-nil IsTrace
    by_found (Some e) is = (named-All trace_name IsTraceEntry t.traces name e kept.traces.each is).traces

-- a name has few versions
pub few_signals : (t : TablesState) → IsTables t → (name : List ℕ) → length (signals_of t name) ≤ MOST_VERSIONS
unfolding signals_of
few_signals t kept name = by_found (traces_named t name) refl
  where
    by_found : (found : Option NamedTraces) → traces_named t name ≡ found → length (unwrap_or (option_map (λ (e : NamedTraces). e.versions) found) []) ≤ MOST_VERSIONS
    by_found None is = omega arith
    by_found (Some e) is = (named-All trace_name IsTraceEntry t.traces name e kept.traces.each is).few

-- all rules are kept when an accepted trace is put
pub IsTables-trace : (t : TablesState) (name : List ℕ) (signal : Signal) → IsTables t → Accepts t (change.Trace name signal) → Grows t (with_signals t name (signals_of t name ++ signal ∷ [])) → IsTables (carried t (change.Trace name signal))
IsTables-trace t name signal kept accepts grows =
    let new = IsNewTrace-accepted t name signal accepts in
    let versions = signals_of t name ++ signal ∷ [] in
    let entry : NamedTraces = record { name = name; versions = versions } in
    let after = with_signals t name versions in
    let is : carried t (change.Trace name signal) ≡ after = carried-trace t name signal in
    let within : AreWithin (counts_of (change.Trace name signal) after) = subst (λ s. AreWithin (counts_of (change.Trace name signal) s)) is new.within in
    let few : length versions ≤ MOST_VERSIONS = subst (λ (vs : List Signal). length vs ≤ MOST_VERSIONS) (signals_of-with t name versions) within.1.0 in
    let kept_entry : IsTraceEntry entry = record {
      name = accepts.command.0.0;
      traces = All-append IsTrace (signals_of t name) (signal ∷ []) (All-signals t kept name)
          (All-cons IsTrace signal [] accepts.command.0.1 (All-nil IsTrace));
      some = omega (arith, length-append (signals_of t name) (signal ∷ []));
      few = few;
      changes = AreChanges-push same_signal same_signal-Decides (signals_of t name) signal (AreChanges-signals t kept name) new.other;
    } in
    let all : IsTables after = record {
      traces = record {
        names = AreRising-placed trace_name t.traces entry kept.traces.names;
        each = All-placed trace_name IsTraceEntry t.traces entry kept.traces.each kept_entry;
        few = within.0;
        few_versions = within.1.1.0;
        few_samples = within.1.1.1.0;
      };
      methods = kept.methods;
      sequences = kept.sequences;
      bases = let more = trace_versions-trace t kept name signal in no_more (changes_in_all t) (changes_in_all after) t.sequences (omega (arith, more)) kept.bases;
      bound = AreBound-grown t after grows t.sequences kept.bound;
      listed = AreListed-grown t after grows t.sequences kept.listed;
    } in
    subst IsTables (sym is) all
