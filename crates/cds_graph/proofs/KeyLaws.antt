-- Keys are the same where they are equal, and nothing is new where nothing changed.
use Rattle.std.proofs.Common.{◌≡◌, ℕ, ◌+◌, Bool, true, false, List, [], ◌∷◌, get_or, refl, sym, ap, ap₂}
use Rattle.std.specs.Bool.{Decides}
use Rattle.std.specs.Prelude.{All, sum_by, ◌*◌}
use Rattle.std.specs.List.{list_any}
use Rattle.std.proofs.lemmas.Bool.Decides.{Decides-eqb, Decides-and}
use Rattle.std.proofs.lemmas.List.Elements.{All-head, All-tail}
use Rattle.std.proofs.lemmas.List.Folds.{list_any_at}
use Rattle.std.proofs.lemmas.Slice.Eq.{bytes_eq-Decides}
use Rattle.cds_base.specs.declared.event.Event.{Event}
use Rattle.cds_book.specs.Tables.{TablesState}
use Rattle.cds_book.proofs.SameLaws.{same_events-Decides}
use Rattle.cds_graph.specs.declared.key.RowKey.{RowKey}
use Rattle.cds_graph.specs.declared.method.MethodKey.{MethodKey}
use Rattle.cds_graph.specs.Keys.{NoiseKey, same_row_key, same_noise_key, same_method_key, row_keys, noise_keys}
use Rattle.cds_graph.specs.Keys.{row_steps, noise_steps, new_keys, fresh}

-- records of equal fields are equal
row_key_made : (a0 b0 : List ℕ) (a1 b1 : ℕ) (a2 b2 : List ℕ) (a3 b3 : ℕ) (a4 b4 : List Event) →
    a0 ≡ b0 → a1 ≡ b1 → a2 ≡ b2 → a3 ≡ b3 → a4 ≡ b4 →
    let x : RowKey = record { trace = a0; version = a1; method = a2; method_version = a3; events = a4 } in
    let y : RowKey = record { trace = b0; version = b1; method = b2; method_version = b3; events = b4 } in x ≡ y
row_key_made a0 b0 a1 b1 a2 b2 a3 b3 a4 b4 e0 e1 e2 e3 e4 = cc

noise_key_made : (a0 b0 : List ℕ) (a1 b1 : ℕ) (a2 b2 : ℕ) (a3 b3 : ℕ) → a0 ≡ b0 → a1 ≡ b1 → a2 ≡ b2 → a3 ≡ b3 →
    let x : NoiseKey = record { trace = a0; version = a1; window = record { from_ms = a2; to_ms = a3 } } in
    let y : NoiseKey = record { trace = b0; version = b1; window = record { from_ms = b2; to_ms = b3 } } in x ≡ y
noise_key_made a0 b0 a1 b1 a2 b2 a3 b3 e0 e1 e2 e3 = cc

method_key_made : (a0 b0 : List ℕ) (a1 b1 : ℕ) → a0 ≡ b0 → a1 ≡ b1 →
    let x : MethodKey = record { name = a0; version = a1 } in
    let y : MethodKey = record { name = b0; version = b1 } in x ≡ y
method_key_made a0 b0 a1 b1 e0 e1 = cc

-- the test of row keys decides whether they are equal
pub same_row_key-Decides : (a b : RowKey) → Decides (same_row_key a b) (a ≡ b)
same_row_key-Decides a b =
    let each = Decides-and _ _ (bytes_eq-Decides a.trace b.trace) (Decides-and _ _ (Decides-eqb a.version b.version)
    (Decides-and _ _ (bytes_eq-Decides a.method b.method) (Decides-and _ _
    (Decides-eqb a.method_version b.method_version) (same_events-Decides a.events b.events)))) in (
      λ t. let e = each.0 t in row_key_made _ _ _ _ _ _ _ _ _ _ e.0 e.1.0 e.1.1.0 e.1.1.1.0 e.1.1.1.1,
      λ e. each.1 (
        ap (λ (k : RowKey). k.trace) e,
        (
          ap (λ (k : RowKey). k.version) e,
          (
            ap (λ (k : RowKey). k.method) e,
            (ap (λ (k : RowKey). k.method_version) e, ap (λ (k : RowKey). k.events) e),
          ),
        ),
      ),
    )

-- the test of noise keys decides whether they are equal
pub same_noise_key-Decides : (a b : NoiseKey) → Decides (same_noise_key a b) (a ≡ b)
same_noise_key-Decides a b =
    let each = Decides-and _ _ (bytes_eq-Decides a.trace b.trace) (Decides-and _ _ (Decides-eqb a.version b.version)
    (Decides-and _ _ (Decides-eqb a.window.from_ms b.window.from_ms)
    (Decides-eqb a.window.to_ms b.window.to_ms))) in (
      λ t. let e = each.0 t in noise_key_made _ _ _ _ _ _ _ _ e.0 e.1.0 e.1.1.0 e.1.1.1,
      λ e. each.1 (
        ap (λ (k : NoiseKey). k.trace) e,
        (
          ap (λ (k : NoiseKey). k.version) e,
          (ap (λ (k : NoiseKey). k.window.from_ms) e, ap (λ (k : NoiseKey). k.window.to_ms) e),
        ),
      ),
    )

-- the test of method keys decides whether they are equal
pub same_method_key-Decides : (a b : MethodKey) → Decides (same_method_key a b) (a ≡ b)
same_method_key-Decides a b =
    let each = Decides-and _ _ (bytes_eq-Decides a.name b.name) (Decides-eqb a.version b.version) in (
      λ t. let e = each.0 t in method_key_made _ _ _ _ e.0 e.1,
      λ e. each.1 (ap (λ (k : MethodKey). k.name) e, ap (λ (k : MethodKey). k.version) e),
    )

-- none of these keys is new where each is known
none-new : {K : Type 0} (same : K → K → Bool) (known keys : List K) →
    All (λ key. list_any (same key) known ≡ true) keys → new_keys same known keys ≡ []
none-new same known [] each = refl
none-new {K} same known (key ∷ keys) each =
    let P : K → Type 0 = λ key. list_any (same key) known ≡ true in
    rw (All-head P key keys each) (none-new same known keys (All-tail P key keys each))

-- no key is new among themselves
pub none-new_among : {K : Type 0} (same : K → K → Bool) → ((key : K) → same key key ≡ true) → (keys : List K) →
    new_keys same keys keys ≡ []
none-new_among same reflexive keys =
    none-new same keys keys (λ k d lt. list_any_at (same (get_or keys k d)) keys k d lt (reflexive (get_or keys k d)))

-- nothing is new in tables that stay
pub fresh-none : (tables : TablesState) → fresh tables tables ≡ 0
unfolding fresh
fresh-none tables =
    let rows = none-new_among same_row_key (λ key. (same_row_key-Decides key key).1 refl) (row_keys tables) in
    let noises = none-new_among same_noise_key (λ key. (same_noise_key-Decides key key).1 refl) (noise_keys tables) in
    ap₂ ◌+◌ (ap (sum_by (row_steps tables)) rows) (ap (sum_by (noise_steps tables)) noises)

-- two answers that decide the same are the same
pub one-answer : {P : Type 0} (r s : Bool) → Decides r P → Decides s P → r ≡ s
one-answer true true d e = refl
one-answer true false d e = sym (e.1 (d.0 refl))
one-answer false true d e = d.1 (e.0 refl)
one-answer false false d e = refl
