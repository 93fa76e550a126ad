-- The results of inputs stay where the versions that the inputs name do.
use Rattle.std.proofs.Common.{◌≡◌, ◌∙◌, ℕ, List, [], ◌∷◌, map, Option, Some, None, unwrap_or, option_map, refl, sym, ap}
use Rattle.std.proofs.Common.{ap₂, subst}
use Rattle.std.specs.Prelude.{All, IsSome}
use Rattle.std.proofs.lemmas.List.Elements.{All-head, All-tail, All-weaker}
use Rattle.cds_rules.specs.Fields.{Fields}
use Rattle.cds_trace.specs.Signal.{Signal}
use Rattle.cds_sign.specs.declared.command.Change.{Change}
use Rattle.cds_sign.specs.declared.inputs.Inputs.{Inputs}
use Rattle.cds_sign.specs.declared.inputs.Listed.{Listed}
use Rattle.cds_sign.specs.declared.inputs.ListedRow.{ListedRow}
use Rattle.cds_sign.specs.declared.row.Row.{Row}
use Rattle.cds_book.specs.Plan.{applied}
use Rattle.cds_book.specs.Tables.{TablesState, trace_of, method_of}
use Rattle.cds_graph.specs.Recorded.{RecordedSequence, RecordedRow, RecordedStandard, RecordedListed}
use Rattle.cds_graph.specs.Recorded.{no_signal, no_method}
use Rattle.cds_graph.specs.Recorded.{signal_in, fields_stated, fields_in}
use Rattle.cds_graph.specs.Recorded.{recorded_in, standard_in, listed_in, recorded_of}
use Rattle.cds_graph.specs.Found.{found_of}
use Rattle.cds_graph.specs.Kept.{sequence_with}
use Rattle.cds_graph.specs.Results.{evaluated, eval}
use Rattle.cds_graph.specs.Staying.{AgreeOnTrace, AgreeOnMethod, AgreeOnListed, AgreeOn}
use Rattle.cds_graph.specs.Staying.{HoldsListed, HoldsInputs, KeepsVersions, all_applied}

-- two functions that agree on each item of a list give the same list
map-agree : {A B : Type 0} (f g : A → B) (xs : List A) → All (λ x. f x ≡ g x) xs → map f xs ≡ map g xs
map-agree f g [] each = refl
map-agree f g (x ∷ xs) each =
    ap₂ (λ y ys. y ∷ ys) (All-head (λ x. f x ≡ g x) x xs each)
    (map-agree f g xs (All-tail (λ x. f x ≡ g x) x xs each))

-- the signal of a version that the tables agree on
pub signal-agree : (one other : TablesState) (trace : List ℕ) (version : ℕ) → AgreeOnTrace one other trace version →
    signal_in one trace version ≡ signal_in other trace version
unfolding signal_in
signal-agree one other trace version agree = ap (λ (o : Option Signal). unwrap_or o no_signal) agree

-- the fields of a version that the tables agree on
pub fields-agree : (one other : TablesState) (method : List ℕ) (version : ℕ) → AgreeOnMethod one other method version →
    fields_in one method version ≡ fields_in other method version
unfolding fields_in
fields-agree one other method version agree =
    ap (λ (o : Option (List ℕ)). unwrap_or (option_map fields_stated o) no_method) agree

-- a listed sequence whose versions the tables agree on
listed-agree : (one other : TablesState) (listed : Listed) → AgreeOnListed one other listed →
    listed_in one listed ≡ listed_in other listed
listed-agree one other listed agree =
    let made : Fields → List RecordedStandard → RecordedListed = λ f rows. record { fields = f; rows = rows } in
    ap₂ made (fields-agree one other listed.method listed.version agree.method)
    (map-agree (standard_in one) (standard_in other) listed.rows
    (All-weaker (λ (row : ListedRow). AgreeOnTrace one other row.trace row.version)
    (λ row. standard_in one row ≡ standard_in other row)
    (λ row h. ap (λ (s : Signal). record { row = row; signal = s }) (signal-agree one other row.trace row.version h))
    listed.rows agree.rows))

-- what inputs stand for where the tables agree on them
recorded-agree : (one other : TablesState) (inputs : Inputs) → AgreeOn one other inputs →
    recorded_of one inputs ≡ recorded_of other inputs
recorded-agree one other inputs agree =
    let fields = fields-agree one other inputs.method inputs.version agree.method in
    let rows = map-agree (recorded_in one) (recorded_in other) inputs.rows
    (All-weaker (λ (row : Row). AgreeOnTrace one other row.trace row.version)
    (λ row. recorded_in one row ≡ recorded_in other row)
    (λ row h. ap (λ (s : Signal). record { row = row; signal = s }) (signal-agree one other row.trace row.version h))
    inputs.rows agree.rows) in
    let standards = map-agree (listed_in one) (listed_in other) inputs.standards
    (All-weaker (AgreeOnListed one other) (λ listed. listed_in one listed ≡ listed_in other listed)
    (listed-agree one other) inputs.standards agree.standards) in
    made _ _ _ _ _ _ fields rows standards
  where
    made : (f g : Fields) (rs ss : List RecordedRow) (ls ms : List RecordedListed) → f ≡ g → rs ≡ ss → ls ≡ ms →
        let a : RecordedSequence = record { fields = f; rows = rs; standards = ls } in
        let b : RecordedSequence = record { fields = g; rows = ss; standards = ms } in a ≡ b
    made f g rs ss ls ms e0 e1 e2 = cc

-- the results of inputs that the tables agree on
pub eval-agree : (one other : TablesState) (inputs : Inputs) → AgreeOn one other inputs →
    eval one inputs ≡ eval other inputs
unfolding eval
eval-agree one other inputs agree =
    ap (λ (s : RecordedSequence). evaluated (found_of s)) (recorded-agree one other inputs agree)

-- what is there and is kept is the same
pub kept-same : {A : Type 0} (o p : Option A) → IsSome o → ((x : A) → o ≡ Some x → p ≡ Some x) → p ≡ o
kept-same None p some keeps = cc
kept-same (Some x) p some keeps = keeps x refl

-- tables that keep the versions of those before agree with them on what those hold
AgreeOnListed-kept : (before after : TablesState) → KeepsVersions before after → (listed : Listed) →
    HoldsListed before listed → AgreeOnListed after before listed
AgreeOnListed-kept before after keeps listed holds = record {
  method = kept-same (method_of before listed.method listed.version) _ holds.method
      (keeps.methods listed.method listed.version);
  rows = All-weaker (λ (row : ListedRow). IsSome (trace_of before row.trace row.version))
      (λ row. AgreeOnTrace after before row.trace row.version)
      (λ row h. kept-same (trace_of before row.trace row.version) _ h (keeps.traces row.trace row.version))
      listed.rows holds.rows;
}

AgreeOn-kept : (before after : TablesState) → KeepsVersions before after → (inputs : Inputs) →
    HoldsInputs before inputs → AgreeOn after before inputs
AgreeOn-kept before after keeps inputs holds = record {
  method = kept-same (method_of before inputs.method inputs.version) _ holds.method
      (keeps.methods inputs.method inputs.version);
  rows = All-weaker (λ (row : Row). IsSome (trace_of before row.trace row.version))
      (λ row. AgreeOnTrace after before row.trace row.version)
      (λ row h. kept-same (trace_of before row.trace row.version) _ h (keeps.traces row.trace row.version))
      inputs.rows holds.rows;
  standards = All-weaker (HoldsListed before) (AgreeOnListed after before) (AgreeOnListed-kept before after keeps)
      inputs.standards holds.standards;
}

-- the results of inputs that the tables held before
pub eval-kept : (before after : TablesState) → KeepsVersions before after → (inputs : Inputs) →
    HoldsInputs before inputs → eval after inputs ≡ eval before inputs
eval-kept before after keeps inputs holds =
    eval-agree after before inputs (AgreeOn-kept before after keeps inputs holds)

-- what is kept of such inputs
pub sequence-kept : (before after : TablesState) → KeepsVersions before after → (name : List ℕ) (inputs : Inputs) →
    HoldsInputs before inputs → sequence_with after name inputs ≡ sequence_with before name inputs
sequence-kept before after keeps name inputs holds =
    ap₂ (λ s r. record { name = name; inputs = inputs; found = found_of s; results = r })
    (recorded-agree after before inputs (AgreeOn-kept before after keeps inputs holds))
    (eval-kept before after keeps inputs holds)

-- what was there is there
some-kept : {A : Type 0} (o p : Option A) → IsSome o → ((x : A) → o ≡ Some x → p ≡ Some x) → IsSome p
some-kept o p some keeps = subst IsSome (sym (kept-same o p some keeps)) some

HoldsListed-kept : (before after : TablesState) → KeepsVersions before after → (listed : Listed) →
    HoldsListed before listed → HoldsListed after listed
HoldsListed-kept before after keeps listed holds = record {
  method = some-kept (method_of before listed.method listed.version) _ holds.method
      (keeps.methods listed.method listed.version);
  rows = All-weaker (λ (row : ListedRow). IsSome (trace_of before row.trace row.version))
      (λ row. IsSome (trace_of after row.trace row.version))
      (λ row h. some-kept (trace_of before row.trace row.version) _ h (keeps.traces row.trace row.version))
      listed.rows holds.rows;
}

pub HoldsInputs-kept : (before after : TablesState) → KeepsVersions before after → (inputs : Inputs) →
    HoldsInputs before inputs → HoldsInputs after inputs
HoldsInputs-kept before after keeps inputs holds = record {
  method = some-kept (method_of before inputs.method inputs.version) _ holds.method
      (keeps.methods inputs.method inputs.version);
  rows = All-weaker (λ (row : Row). IsSome (trace_of before row.trace row.version))
      (λ row. IsSome (trace_of after row.trace row.version))
      (λ row h. some-kept (trace_of before row.trace row.version) _ h (keeps.traces row.trace row.version))
      inputs.rows holds.rows;
  standards = All-weaker (HoldsListed before) (HoldsListed after) (HoldsListed-kept before after keeps)
      inputs.standards holds.standards;
}

-- the results of inputs after any number of changes, each of which keeps the versions
pub eval-all_applied : ((t : TablesState) (c : Change) → KeepsVersions t (applied t c)) → (tables : TablesState)
    (changes : List Change) (inputs : Inputs) → HoldsInputs tables inputs →
    eval (all_applied tables changes) inputs ≡ eval tables inputs
eval-all_applied keeps tables [] inputs holds = refl
eval-all_applied keeps tables (c ∷ later) inputs holds =
    eval-all_applied keeps (applied tables c) later inputs
    (HoldsInputs-kept tables (applied tables c) (keeps tables c) inputs holds)
    ∙ eval-kept tables (applied tables c) (keeps tables c) inputs holds
