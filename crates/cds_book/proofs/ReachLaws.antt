-- A change leaves the inputs of each sequence that it doesn't reach.
use Rattle.std.proofs.Common.{◌≡◌, ◌∙◌, ℕ, ◌+◌, ◌==◌, Bool, true, false, List, [], ◌∷◌, length, map, Option, Some, None, option_map, refl, sym, ap, ap₂, subst, arith}
use Rattle.std.specs.Prelude.{◌&&◌, ◌||◌, All, if◌then◌else◌}
use Rattle.std.specs.List.{cons_option, filter_map, list_any}
use Rattle.std.specs.Option.{option_map_or}
use Rattle.std.specs.Str.{bytes_eq}
use Rattle.std.proofs.lemmas.List.Elements.{All-nil, All-cons, All-head, All-tail, All-weaker}
use Rattle.cds_trace.specs.Signal.{Signal}
use Rattle.cds_sign.specs.declared.command.Change.{Change}
use Rattle.cds_sign.specs.declared.command.Change.TheVariants as change
use Rattle.cds_sign.specs.declared.inputs.Inputs.{Inputs}
use Rattle.cds_sign.specs.declared.inputs.Listed.{Listed}
use Rattle.cds_sign.specs.declared.inputs.ListedRow.{ListedRow}
use Rattle.cds_sign.specs.declared.row.Row.{Row}
use Rattle.cds_sign.specs.declared.sequence.Sequence.{Sequence}
use Rattle.cds_book.specs.Held.{bindings_over}
use Rattle.cds_book.specs.Inputs.{Bindings, bindings_of, resolved, row_resolved, is_standard, row_listed, listed_as, listed_of, inputs_in, inputs_by, inputs_of}
use Rattle.cds_book.specs.Plan.{applied, carried, inputs_differ, sequence_made, signature, with_changed, with_frozen}
use Rattle.cds_book.specs.Reach.{is_made, is_reached, listed_reached, method_reached, own_reached, row_reached, standards_reached}
use Rattle.cds_book.specs.Tables.{TablesState, draft_of, sequence_of, signals_of, texts_of}
use Rattle.cds_book.specs.declared.over.Over.TheVariants as over
use Rattle.cds_book.proofs.BasisLaws.{inputs_of-applied}
use Rattle.cds_book.proofs.BindingLaws.{bindings-trace, bindings-draft, bindings-freeze, bindings-no_freeze, bindings-made, bindings-unmade, bindings-sign}
use Rattle.cds_book.proofs.RaisedLaws.{others-self}

neither : (a b : Bool) → (a || b) ≡ false → (a ≡ false) × (b ≡ false)
neither true b is = cc
neither false b is = (refl, is)

-- none passes the test where not any does
none-any : {X : Type 0} (p : X → Bool) (xs : List X) → list_any p xs ≡ false → All (λ x. p x ≡ false) xs
none-any p [] none = All-nil (λ x. p x ≡ false)
none-any p (x ∷ xs) none =
    let parts = neither (p x) (list_any p xs) none in
    All-cons (λ y. p y ≡ false) x xs parts.0 (none-any p xs parts.1)

-- one more version changes what the latest is, and no other
resolved-more : (b : Bool) (count version : ℕ) → (b && (version == 0)) ≡ false →
    resolved (count + (if b then 1 else 0)) version ≡ resolved count version
resolved-more true count version is = rw is refl
resolved-more false count version is =
    let zero : count + 0 ≡ count = omega arith in ap (λ n. resolved n version) zero

-- what a change leaves of what bindings are resolved by
record Leaves (t : TablesState) (c : Change) (b : Bindings) : Type 0 where
  sequence : (name : List ℕ) → is_made c name ≡ false → b.sequences name ≡ sequence_of t name
  method : (s : Sequence) → method_reached c s ≡ false →
      resolved (b.methods s.method) s.version ≡ resolved (length (texts_of t s.method)) s.version
  row : (r : Row) → row_reached c r ≡ false →
      resolved (b.traces r.trace) r.version ≡ resolved (length (signals_of t r.trace)) r.version

module _ (t : TablesState) where
  -- nothing is made other
  Leaves-nothing : (c : Change) → Leaves t c (bindings_over t over.Nothing)
  unfolding bindings_over bindings_of
  Leaves-nothing c = record { sequence = λ n other. refl; method = λ s other. refl; row = λ r other. refl }

  -- another sequence stands under a name
  Leaves-made : (c : Change) (name : List ℕ) → ((n : List ℕ) → is_made c n ≡ bytes_eq name n) → (s : Sequence) →
      Leaves t c (bindings_over t (over.Sequence name s))
  unfolding bindings_over bindings_of
  Leaves-made c name made s = record {
    sequence = λ n other. let differs : bytes_eq name n ≡ false = sym (made n) ∙ other in rw differs refl;
    method = λ q other. refl;
    row = λ r other. refl;
  }

  Leaves-trace : (name : List ℕ) (signal : Signal) →
      Leaves t (change.Trace name signal) (bindings_over t (over.Trace name))
  unfolding bindings_over bindings_of
  Leaves-trace name signal = record {
    sequence = λ n other. refl;
    method = λ s other. refl;
    row = λ r other. resolved-more (bytes_eq r.trace name) (length (signals_of t r.trace)) r.version other;
  }

  Leaves-method : (name : List ℕ) (version : ℕ) →
      Leaves t (change.Freeze name version) (bindings_over t (over.Method name))
  unfolding bindings_over bindings_of
  Leaves-method name version = record {
    sequence = λ n other. refl;
    method = λ s other. resolved-more (bytes_eq s.method name) (length (texts_of t s.method)) s.version other;
    row = λ r other. refl;
  }

  -- a freeze with a draft, and one without
  Leaves-freeze : (name : List ℕ) (version : ℕ) (found : Option (List ℕ)) →
      Leaves t (change.Freeze name version) (bindings_of (with_frozen t name found))
  Leaves-freeze name version None =
      subst (Leaves t (change.Freeze name version)) (bindings-no_freeze t name None refl)
      (Leaves-nothing (change.Freeze name version))
  Leaves-freeze name version (Some draft) =
      subst (Leaves t (change.Freeze name version)) (bindings-freeze t name (Some draft) refl)
      (Leaves-method name version)

  -- a change that makes a sequence of a name, if it makes one
  Leaves-changed : (c : Change) (name : List ℕ) → ((n : List ℕ) → is_made c n ≡ bytes_eq name n) →
      (made : Option Sequence) → Leaves t c (bindings_of (with_changed t name made))
  Leaves-changed c name made None = subst (Leaves t c) (bindings-unmade t name None refl) (Leaves-nothing c)
  Leaves-changed c name made (Some s) =
      subst (Leaves t c) (bindings-made t name s (Some s) refl) (Leaves-made c name made s)

  Leaves-carried : (c : Change) → Leaves t c (bindings_of (carried t c))
  Leaves-carried (change.Trace name signal) =
      subst (Leaves t (change.Trace name signal)) (bindings-trace t name signal) (Leaves-trace name signal)
  Leaves-carried (change.Draft name text) =
      subst (Leaves t (change.Draft name text)) (bindings-draft t name text) (Leaves-nothing (change.Draft name text))
  Leaves-carried (change.Freeze name version) = Leaves-freeze name version (draft_of t name)
  Leaves-carried (change.Sequence name edition method version standards rows) =
      let c = change.Sequence name edition method version standards rows in
      Leaves-changed c name (λ n. refl) (sequence_made t c)
  Leaves-carried (change.Events name edition row events) =
      let c = change.Events name edition row events in
      Leaves-changed c name (λ n. refl) (sequence_made t c)
  Leaves-carried (change.Rebind name edition version) =
      let c = change.Rebind name edition version in
      Leaves-changed c name (λ n. refl) (sequence_made t c)
  Leaves-carried (change.Sign sequence number basis moment name meaning text) =
      let c = change.Sign sequence number basis moment name meaning text in
      subst (Leaves t c)
      (bindings-sign t sequence (signature number basis moment name meaning text) (sequence_of t sequence) refl)
      (Leaves-nothing c)

-- two functions that agree on each item of a list give the same list
map-agree : {A B : Type 0} (f g : A → B) (xs : List A) → All (λ x. f x ≡ g x) xs → map f xs ≡ map g xs
map-agree f g [] each = refl
map-agree f g (x ∷ xs) each =
    ap₂ (λ y ys. y ∷ ys) (All-head (λ x. f x ≡ g x) x xs each) (map-agree f g xs (All-tail (λ x. f x ≡ g x) x xs each))

filter_map-agree : {A B : Type 0} (f g : A → Option B) (xs : List A) → All (λ x. f x ≡ g x) xs →
    filter_map f xs ≡ filter_map g xs
filter_map-agree f g [] each = refl
filter_map-agree f g (x ∷ xs) each =
    ap₂ cons_option (All-head (λ x. f x ≡ g x) x xs each) (filter_map-agree f g xs (All-tail (λ x. f x ≡ g x) x xs each))

-- what a standard row gives at a version of its trace
abbrev given_row : Row → ℕ → ListedRow
given_row r v = record { trace = r.trace; version = v; used = r.used; amounts = r.amounts; events = r.events }

-- inputs are equal where each part is
inputs_eq : (m : List ℕ) (v w : ℕ) (rs us : List Row) (ls ms : List Listed) → v ≡ w → rs ≡ us → ls ≡ ms →
    let i : Inputs = record { method = m; version = v; rows = rs; standards = ls } in
    let j : Inputs = record { method = m; version = w; rows = us; standards = ms } in i ≡ j
inputs_eq m v w rs us ls ms e f g = cc

module _ (t : TablesState) (c : Change) (b : Bindings) (leaves : Leaves t c b) where
  -- what is made of the sequence of a name, where it is the same of one that isn't reached
  found-left : {X : Type 0} (f g : Sequence → X) (reached : Sequence → Bool) (name : List ℕ) →
      ((s : Sequence) → reached s ≡ false → f s ≡ g s) → option_map_or reached (sequence_of t name) false ≡ false →
      b.sequences name ≡ sequence_of t name → option_map f (b.sequences name) ≡ option_map g ((bindings_of t).sequences name)
  unfolding bindings_of
  found-left f g reached name same none stays = ap (option_map f) stays ∙ by_found (sequence_of t name) none
    where
      by_found : (found : Option Sequence) → option_map_or reached found false ≡ false → option_map f found ≡ option_map g found
      by_found None other = refl
      by_found (Some s) other = ap Some (same s other)

  -- a row gives the same where it is no standard, or its version is resolved as before
  row-left : (r : Row) → (is_standard r.kind && row_reached c r) ≡ false → row_listed b r ≡ row_listed (bindings_of t) r
  unfolding row_listed bindings_of
  row-left r none = by_kind (is_standard r.kind) none
    where
      by_kind : (s : Bool) → (s && row_reached c r) ≡ false →
          (if s then Some (given_row r (resolved (b.traces r.trace) r.version)) else None)
          ≡ (if s then Some (given_row r (resolved (length (signals_of t r.trace)) r.version)) else None)
      by_kind true other = ap (λ v. Some (given_row r v)) (leaves.row r other)
      by_kind false other = refl

  -- what a sequence that isn't reached gives to those that list it
  given-left : (name : List ℕ) (s : Sequence) → standards_reached c s ≡ false →
      listed_as b name s ≡ listed_as (bindings_of t) name s
  unfolding listed_as bindings_of
  given-left name s other =
      let standard : Row → Bool = λ r. is_standard r.kind && row_reached c r in
      let parts = neither (method_reached c s) (list_any standard s.rows) other in
      let rows = filter_map-agree (row_listed b) (row_listed (bindings_of t)) s.rows
      (All-weaker (λ (r : Row). standard r ≡ false) (λ (r : Row). row_listed b r ≡ row_listed (bindings_of t) r)
      row-left s.rows (none-any standard s.rows parts.1)) in
      let whole : ℕ → List ListedRow → Listed =
      λ v rs. record { sequence = name; method = s.method; version = v; rows = rs } in
      ap₂ whole (leaves.method s parts.0) rows

  listed-left : (name : List ℕ) → listed_reached t c name ≡ false → listed_of b name ≡ listed_of (bindings_of t) name
  unfolding listed_reached listed_of
  listed-left name none =
      let parts = neither (is_made c name) (option_map_or (standards_reached c) (sequence_of t name) false) none in
      found-left (listed_as b name) (listed_as (bindings_of t) name) (standards_reached c) name (given-left name)
      parts.1 (leaves.sequence name parts.0)

  -- the inputs of a sequence that isn't reached by what it binds and lists
  own-left : (s : Sequence) → (own_reached c s || list_any (listed_reached t c) s.standards) ≡ false →
      inputs_in b s ≡ inputs_in (bindings_of t) s
  unfolding inputs_in row_resolved bindings_of
  own-left s other =
      let parts = neither (own_reached c s) (list_any (listed_reached t c) s.standards) other in
      let own = neither (method_reached c s) (list_any (row_reached c) s.rows) parts.0 in
      let rows = map-agree (row_resolved b) (row_resolved (bindings_of t)) s.rows
      (All-weaker (λ (r : Row). row_reached c r ≡ false)
      (λ (r : Row). row_resolved b r ≡ row_resolved (bindings_of t) r)
      (λ r left. ap (λ v. record r { version = v }) (leaves.row r left)) s.rows
      (none-any (row_reached c) s.rows own.1)) in
      let standards = filter_map-agree (listed_of b) (listed_of (bindings_of t)) s.standards
      (All-weaker (λ (n : List ℕ). listed_reached t c n ≡ false)
      (λ (n : List ℕ). listed_of b n ≡ listed_of (bindings_of t) n) listed-left s.standards
      (none-any (listed_reached t c) s.standards parts.1)) in
      inputs_eq s.method _ _ _ _ _ _ (leaves.method s own.0) rows standards

  inputs-left : (name : List ℕ) → is_reached t c name ≡ false → inputs_by b name ≡ inputs_of t name
  unfolding is_reached inputs_by
  inputs-left name none =
      let reached : Sequence → Bool = λ s. own_reached c s || list_any (listed_reached t c) s.standards in
      let parts = neither (is_made c name) (option_map_or reached (sequence_of t name) false) none in
      found-left (inputs_in b) (inputs_in (bindings_of t)) reached name own-left parts.1 (leaves.sequence name parts.0)

-- the inputs of a sequence that a change doesn't reach stay
pub inputs_of-unreached : (t : TablesState) (c : Change) (name : List ℕ) → is_reached t c name ≡ false →
    inputs_of (applied t c) name ≡ inputs_of t name
inputs_of-unreached t c name none =
    inputs_of-applied t c name ∙ inputs-left t c (bindings_of (carried t c)) (Leaves-carried t c) name none

-- so they don't differ
pub differ-unreached : (t : TablesState) (c : Change) (name : List ℕ) → is_reached t c name ≡ false →
    inputs_differ t (carried t c) name ≡ false
unfolding inputs_differ
differ-unreached t c name none =
    let same = inputs-left t c (bindings_of (carried t c)) (Leaves-carried t c) name none in
    rw same (others-self (inputs_of t name))
