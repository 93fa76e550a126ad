-- The tests of equality decide whether rows and inputs are equal.
use Rattle.std.proofs.Common.{◌≡◌, ◌∙◌, ℕ, zero, suc, ◌==◌, Bool, List, refl, sym, ap}
use Rattle.std.specs.Bool.{Decides}
use Rattle.std.specs.Cmp.{booleans_Decides}
use Rattle.std.specs.Cmp.Lexicographic.{pointwise}
use Rattle.std.proofs.lemmas.Bool.Decides.{Decides-eqb, Decides-and}
use Rattle.std.proofs.lemmas.Slice.Eq.{slice_eq-Decides, bytes_eq-Decides}
use Rattle.cds_base.specs.EventParts.{EventParts, event_parts}
use Rattle.cds_base.specs.declared.event.Event.{Event}
use Rattle.cds_base.specs.declared.event.Event.TheVariants.{Inhibit, Valley, Drop, Baseline, Slope, Skim}
use Rattle.cds_sign.specs.RowKinds.{kind_number}
use Rattle.cds_sign.specs.declared.inputs.Inputs.{Inputs}
use Rattle.cds_sign.specs.declared.inputs.Listed.{Listed}
use Rattle.cds_sign.specs.declared.inputs.ListedRow.{ListedRow}
use Rattle.cds_sign.specs.declared.row.Row.{Row}
use Rattle.cds_sign.specs.declared.row.RowKind.{RowKind}
use Rattle.cds_sign.specs.declared.row.RowKind.TheVariants.{Blank, Standard, Replicate, Sample}
use Rattle.cds_book.specs.Same.{same_parts, same_event, same_events, same_amount, same_row, same_rows, same_listed_row, same_listed, same_inputs}

-- what decides one statement decides another that says the same
Decides-to : {P Q : Type 0} (r : Bool) → Decides r P → (P → Q) → (Q → P) → Decides r Q
Decides-to r d f g = (λ e. f (d.0 e), λ q. d.1 (g q))

-- a test of what is seen decides whether the things are equal, where what is seen gives them back
Decides-seen : {A B : Type 0} (seen : A → B) (back : B → A) → ((a : A) → back (seen a) ≡ a) → (a b : A) (r : Bool) → Decides r (seen a ≡ seen b) → Decides r (a ≡ b)
Decides-seen seen back gives a b r d = Decides-to r d (λ e. sym (gives a) ∙ ap back e ∙ gives b) (λ e. ap seen e)

-- a list test
list-Decides : {A : Type 0} (E : A → A → Bool) → ((a b : A) → Decides (E a b) (a ≡ b)) → (xs ys : List A) → Decides (pointwise E xs ys) (xs ≡ ys)
list-Decides E decides xs ys = slice_eq-Decides decides xs ys (pointwise E xs ys) refl

-- records of equal fields are equal
parts_made : (a0 b0 : ℕ) (a1 b1 : ℕ) (a2 b2 : ℕ) (a3 b3 : ℕ) → a0 ≡ b0 → a1 ≡ b1 → a2 ≡ b2 → a3 ≡ b3 → let x : EventParts = record { kind = a0; first = a1; second = a2; third = a3 } in let y : EventParts = record { kind = b0; first = b1; second = b2; third = b3 } in x ≡ y
parts_made a0 b0 a1 b1 a2 b2 a3 b3 e0 e1 e2 e3 = cc

parts_eq : (a b : EventParts) → (a.kind ≡ b.kind) × ((a.first ≡ b.first) × ((a.second ≡ b.second) × (a.third ≡ b.third))) → a ≡ b
parts_eq a b e = parts_made a.kind b.kind a.first b.first a.second b.second a.third b.third e.0 e.1.0 e.1.1.0 e.1.1.1

parts-Decides : (a b : EventParts) → Decides (same_parts a b) (a ≡ b)
parts-Decides a b = Decides-to _
    (Decides-and _ _ (Decides-eqb a.kind b.kind) (Decides-and _ _ (Decides-eqb a.first b.first) (Decides-and _ _ (Decides-eqb a.second b.second) (Decides-eqb a.third b.third))))
    (parts_eq a b)
    (λ e. (ap (λ (p : EventParts). p.kind) e, (ap (λ (p : EventParts). p.first) e, (ap (λ (p : EventParts). p.second) e, ap (λ (p : EventParts). p.third) e))))

-- the event of a kind with its numbers
event_back : EventParts → Event
event_back p = by_kind p.kind p.first p.second p.third
  where
    by_kind : ℕ → ℕ → ℕ → ℕ → Event
    by_kind zero a b c = Skim a b
    by_kind (suc zero) a b c = Inhibit a b
    by_kind (suc (suc zero)) a b c = Valley a b
    by_kind (suc (suc (suc zero))) a b c = Drop a
    by_kind (suc (suc (suc (suc zero)))) a b c = Baseline a b
    by_kind (suc (suc (suc (suc (suc zero))))) a b c = Slope a b c
    by_kind (suc (suc (suc (suc (suc (suc n)))))) a b c = Skim a b

event_is : (e : Event) → event_back (event_parts e) ≡ e
unfolding event_back
event_is (Inhibit a b) = refl
event_is (Valley a b) = refl
event_is (Drop a) = refl
event_is (Baseline a b) = refl
event_is (Slope a b c) = refl
event_is (Skim a b) = refl

event-Decides : (a b : Event) → Decides (same_event a b) (a ≡ b)
event-Decides a b = Decides-seen event_parts event_back event_is a b _ (parts-Decides (event_parts a) (event_parts b))

pub same_events-Decides : (a b : List Event) → Decides (same_events a b) (a ≡ b)
unfolding same_events
same_events-Decides = list-Decides same_event event-Decides

-- the kind of a number
kind_back : ℕ → RowKind
kind_back zero = Sample
kind_back (suc zero) = Blank
kind_back (suc (suc zero)) = Standard
kind_back (suc (suc (suc zero))) = Replicate
kind_back (suc (suc (suc (suc n)))) = Sample

kind_is : (k : RowKind) → kind_back (kind_number k) ≡ k
unfolding kind_back
kind_is Blank = refl
kind_is Standard = refl
kind_is Replicate = refl
kind_is Sample = refl

kind-Decides : (a b : RowKind) → Decides (kind_number a == kind_number b) (a ≡ b)
kind-Decides a b = Decides-seen kind_number kind_back kind_is a b _ (Decides-eqb (kind_number a) (kind_number b))

amount_made : (n m : List ℕ) (x y : ℕ) → n ≡ m → x ≡ y → let a : List ℕ × ℕ = (n, x) in let b : List ℕ × ℕ = (m, y) in a ≡ b
amount_made n m x y e f = cc

amount_eq : (a b : List ℕ × ℕ) → (a.0 ≡ b.0) × (a.1 ≡ b.1) → a ≡ b
amount_eq a b e = amount_made a.0 b.0 a.1 b.1 e.0 e.1

amount-Decides : (a b : List ℕ × ℕ) → Decides (same_amount a b) (a ≡ b)
amount-Decides a b = Decides-to _ (Decides-and _ _ (bytes_eq-Decides a.0 b.0) (Decides-eqb a.1 b.1)) (amount_eq a b) (λ e. (ap (λ (p : List ℕ × ℕ). p.0) e, ap (λ (p : List ℕ × ℕ). p.1) e))

amounts-Decides : (a b : List (List ℕ × ℕ)) → Decides (pointwise same_amount a b) (a ≡ b)
amounts-Decides = list-Decides same_amount amount-Decides

-- records of equal fields are equal
row_made : (a0 b0 : List ℕ) (a1 b1 : RowKind) (a2 b2 : List ℕ) (a3 b3 : ℕ) (a4 b4 : Bool) (a5 b5 : ℕ) (a6 b6 : ℕ) (a7 b7 : List (List ℕ × ℕ)) (a8 b8 : List Event) → a0 ≡ b0 → a1 ≡ b1 → a2 ≡ b2 → a3 ≡ b3 → a4 ≡ b4 → a5 ≡ b5 → a6 ≡ b6 → a7 ≡ b7 → a8 ≡ b8 → let x : Row = record { label = a0; kind = a1; trace = a2; version = a3; used = a4; u = a5; v = a6; amounts = a7; events = a8 } in let y : Row = record { label = b0; kind = b1; trace = b2; version = b3; used = b4; u = b5; v = b6; amounts = b7; events = b8 } in x ≡ y
row_made a0 b0 a1 b1 a2 b2 a3 b3 a4 b4 a5 b5 a6 b6 a7 b7 a8 b8 e0 e1 e2 e3 e4 e5 e6 e7 e8 = cc

row_eq : (a b : Row) → (a.label ≡ b.label) × ((a.kind ≡ b.kind) × ((a.trace ≡ b.trace) × ((a.version ≡ b.version) × ((a.used ≡ b.used) × ((a.u ≡ b.u) × ((a.v ≡ b.v) × ((a.amounts ≡ b.amounts) × (a.events ≡ b.events)))))))) → a ≡ b
row_eq a b e = row_made a.label b.label a.kind b.kind a.trace b.trace a.version b.version a.used b.used a.u b.u a.v b.v a.amounts b.amounts a.events b.events e.0 e.1.0 e.1.1.0 e.1.1.1.0 e.1.1.1.1.0 e.1.1.1.1.1.0 e.1.1.1.1.1.1.0 e.1.1.1.1.1.1.1.0 e.1.1.1.1.1.1.1.1

pub same_row-Decides : (a b : Row) → Decides (same_row a b) (a ≡ b)
unfolding same_row
same_row-Decides a b = Decides-to _
    (Decides-and _ _ (bytes_eq-Decides a.label b.label) (Decides-and _ _ (kind-Decides a.kind b.kind) (Decides-and _ _ (bytes_eq-Decides a.trace b.trace)
    (Decides-and _ _ (Decides-eqb a.version b.version) (Decides-and _ _ (booleans_Decides a.used b.used) (Decides-and _ _ (Decides-eqb a.u b.u) (Decides-and _ _ (Decides-eqb a.v b.v)
    (Decides-and _ _ (amounts-Decides a.amounts b.amounts) (same_events-Decides a.events b.events)))))))))
    (row_eq a b)
    (λ e. (
      ap (λ (r : Row). r.label) e,
      (
        ap (λ (r : Row). r.kind) e,
        (
          ap (λ (r : Row). r.trace) e,
          (
            ap (λ (r : Row). r.version) e,
            (
              ap (λ (r : Row). r.used) e,
              (ap (λ (r : Row). r.u) e, (ap (λ (r : Row). r.v) e, (ap (λ (r : Row). r.amounts) e, ap (λ (r : Row). r.events) e))),
            ),
          ),
        ),
      ),
    ))

pub same_rows-Decides : (a b : List Row) → Decides (same_rows a b) (a ≡ b)
unfolding same_rows
same_rows-Decides = list-Decides same_row same_row-Decides

-- records of equal fields are equal
listed_row_made : (a0 b0 : List ℕ) (a1 b1 : ℕ) (a2 b2 : Bool) (a3 b3 : List (List ℕ × ℕ)) (a4 b4 : List Event) → a0 ≡ b0 → a1 ≡ b1 → a2 ≡ b2 → a3 ≡ b3 → a4 ≡ b4 → let x : ListedRow = record { trace = a0; version = a1; used = a2; amounts = a3; events = a4 } in let y : ListedRow = record { trace = b0; version = b1; used = b2; amounts = b3; events = b4 } in x ≡ y
listed_row_made a0 b0 a1 b1 a2 b2 a3 b3 a4 b4 e0 e1 e2 e3 e4 = cc

listed_row_eq : (a b : ListedRow) → (a.trace ≡ b.trace) × ((a.version ≡ b.version) × ((a.used ≡ b.used) × ((a.amounts ≡ b.amounts) × (a.events ≡ b.events)))) → a ≡ b
listed_row_eq a b e = listed_row_made a.trace b.trace a.version b.version a.used b.used a.amounts b.amounts a.events b.events e.0 e.1.0 e.1.1.0 e.1.1.1.0 e.1.1.1.1

listed_row-Decides : (a b : ListedRow) → Decides (same_listed_row a b) (a ≡ b)
unfolding same_listed_row
listed_row-Decides a b = Decides-to _
    (Decides-and _ _ (bytes_eq-Decides a.trace b.trace) (Decides-and _ _ (Decides-eqb a.version b.version) (Decides-and _ _ (booleans_Decides a.used b.used)
    (Decides-and _ _ (amounts-Decides a.amounts b.amounts) (same_events-Decides a.events b.events)))))
    (listed_row_eq a b)
    (λ e. (ap (λ (r : ListedRow). r.trace) e, (ap (λ (r : ListedRow). r.version) e, (ap (λ (r : ListedRow). r.used) e, (ap (λ (r : ListedRow). r.amounts) e, ap (λ (r : ListedRow). r.events) e)))))

-- records of equal fields are equal
listed_made : (a0 b0 : List ℕ) (a1 b1 : List ℕ) (a2 b2 : ℕ) (a3 b3 : List ListedRow) → a0 ≡ b0 → a1 ≡ b1 → a2 ≡ b2 → a3 ≡ b3 → let x : Listed = record { sequence = a0; method = a1; version = a2; rows = a3 } in let y : Listed = record { sequence = b0; method = b1; version = b2; rows = b3 } in x ≡ y
listed_made a0 b0 a1 b1 a2 b2 a3 b3 e0 e1 e2 e3 = cc

listed_eq : (a b : Listed) → (a.sequence ≡ b.sequence) × ((a.method ≡ b.method) × ((a.version ≡ b.version) × (a.rows ≡ b.rows))) → a ≡ b
listed_eq a b e = listed_made a.sequence b.sequence a.method b.method a.version b.version a.rows b.rows e.0 e.1.0 e.1.1.0 e.1.1.1

listed-Decides : (a b : Listed) → Decides (same_listed a b) (a ≡ b)
unfolding same_listed
listed-Decides a b = Decides-to _
    (Decides-and _ _ (bytes_eq-Decides a.sequence b.sequence) (Decides-and _ _ (bytes_eq-Decides a.method b.method) (Decides-and _ _ (Decides-eqb a.version b.version)
    (list-Decides same_listed_row listed_row-Decides a.rows b.rows))))
    (listed_eq a b)
    (λ e. (ap (λ (l : Listed). l.sequence) e, (ap (λ (l : Listed). l.method) e, (ap (λ (l : Listed). l.version) e, ap (λ (l : Listed). l.rows) e))))

-- records of equal fields are equal
inputs_made : (a0 b0 : List ℕ) (a1 b1 : ℕ) (a2 b2 : List Row) (a3 b3 : List Listed) → a0 ≡ b0 → a1 ≡ b1 → a2 ≡ b2 → a3 ≡ b3 → let x : Inputs = record { method = a0; version = a1; rows = a2; standards = a3 } in let y : Inputs = record { method = b0; version = b1; rows = b2; standards = b3 } in x ≡ y
inputs_made a0 b0 a1 b1 a2 b2 a3 b3 e0 e1 e2 e3 = cc

inputs_eq : (a b : Inputs) → (a.method ≡ b.method) × ((a.version ≡ b.version) × ((a.rows ≡ b.rows) × (a.standards ≡ b.standards))) → a ≡ b
inputs_eq a b e = inputs_made a.method b.method a.version b.version a.rows b.rows a.standards b.standards e.0 e.1.0 e.1.1.0 e.1.1.1

pub same_inputs-Decides : (a b : Inputs) → Decides (same_inputs a b) (a ≡ b)
unfolding same_inputs
same_inputs-Decides a b = Decides-to _
    (Decides-and _ _ (bytes_eq-Decides a.method b.method) (Decides-and _ _ (Decides-eqb a.version b.version) (Decides-and _ _ (same_rows-Decides a.rows b.rows)
    (list-Decides same_listed listed-Decides a.standards b.standards))))
    (inputs_eq a b)
    (λ e. (ap (λ (i : Inputs). i.method) e, (ap (λ (i : Inputs). i.version) e, (ap (λ (i : Inputs). i.rows) e, ap (λ (i : Inputs). i.standards) e))))
