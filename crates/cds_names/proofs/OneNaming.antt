-- There is at most one naming that no wanted pair blocks.
use Rattle.std.proofs.Common.{◌≡◌, ℕ, zero, suc, ◌+◌, ◌*◌, ◌<◌, ◌≤◌, ◌⊎◌, inl, inr, List, length, Option, Some, None, refl, sym, ap, ap₂, ◌∙◌, arith, mul-le-mul_right, add-mul, ext_get_or}
use Rattle.std.proofs.lemmas.Bool.{cases_order, cases_eq}
use Rattle.std.proofs.lemmas.Option.{slice_get_within}
use Rattle.cds_base.specs.declared.Window.{Window}
use Rattle.cds_names.specs.Naming.{Pair, IsWanted, IsBefore, peak_of, HasPair, IsNaming, Blocks, IsUnblocked}

-- how many places come before a row's place, where a row has m places
lex_lt : (a a' b b' m : ℕ) → b < m → (a < a') ⊎ ((a ≡ a') × (b < b')) → a * m + b < a' * m + b'
lex_lt a a' b b' m within (inl lt) =
    let whole : (a + 1) * m ≤ a' * m = mul-le-mul_right m (omega arith) in
    let split : (a + 1) * m ≡ a * m + 1 * m = add-mul a 1 m in
    omega arith
lex_lt a a' b b' m within (inr e) =
    let same : a * m ≡ a' * m = ap (λ n. n * m) e.0 in
    let lt : b < b' = e.1 in
    omega arith

-- the place of a pair among all pairs of a component below w and a peak below a
unfoldable rank : ℕ → ℕ → Pair → ℕ
rank w a p = (p.distance * w + p.component) * a + p.peak

-- an earlier pair has an earlier place
rank_lt : (w a : ℕ) (p q : Pair) → p.component < w → p.peak < a → IsBefore p q → rank w a p < rank w a q
unfolding rank
rank_lt w a p q in_w in_a (inl nearer) = lex_lt (p.distance * w + p.component) (q.distance * w + q.component) p.peak q.peak a in_a (inl (lex_lt p.distance q.distance p.component q.component w in_w (inl nearer)))
rank_lt w a p q in_w in_a (inr (near, inl earlier)) = lex_lt (p.distance * w + p.component) (q.distance * w + q.component) p.peak q.peak a in_a (inl (lex_lt p.distance q.distance p.component q.component w in_w (inr (near, earlier))))
rank_lt w a p q in_w in_a (inr (near, inr (same, peak))) = lex_lt (p.distance * w + p.component) (q.distance * w + q.component) p.peak q.peak a in_a (inr (ap₂ (λ d c. d * w + c) near same, peak))

-- of two pairs one comes before the other, or they are one pair
data Order (p q : Pair) : Type 0 where
  before : IsBefore p q → Order p q
  after : IsBefore q p → Order p q
  same : p.component ≡ q.component → p.peak ≡ q.peak → Order p q

order_of : (p q : Pair) → Order p q
order_of p q =
    elim (cases_order p.distance q.distance) [
      | inr (inl lt) ↦ before (inl lt)
      | inr (inr lt) ↦ after (inl lt)
      | inl near ↦
          elim (cases_order p.component q.component) [
            | inr (inl lt) ↦ before (inr (near, inl lt))
            | inr (inr lt) ↦ after (inr (sym near, inl lt))
            | inl component ↦
                elim (cases_order p.peak q.peak) [
                  | inr (inl lt) ↦ before (inr (near, inr (component, lt)))
                  | inr (inr lt) ↦ after (inr (sym near, inr (sym component, lt)))
                  | inl peak ↦ same component peak
                ]
          ]
    ]

some_inj : {m n : ℕ} → Some m ≡ Some n → m ≡ n
some_inj e = cc

option_cases : (o : Option ℕ) (n : ℕ) → (o ≡ Some n) ⊎ (o ≡ Some n → ⊥)
option_cases None n = inr (λ e. cc)
option_cases (Some m) n = elim (cases_eq m n) [ inl e ↦ inl (ap Some e) | inr differ ↦ inr (λ e. differ (some_inj e)) ]

-- a naming has a pair or has it not
has_or_not : (naming : List (Option ℕ)) (p : Pair) → HasPair naming p ⊎ (HasPair naming p → ⊥)
has_or_not naming p = option_cases (peak_of naming p.component) p.peak

module _ (windows : List Window) (times : List ℕ) where
  -- a place for each wanted pair
  pub place : Pair → ℕ
  place p = rank (length windows) (length times) p

  -- the two namings have the same earlier pairs
  abbrev AgreeBefore : (xs ys : List (Option ℕ)) → ℕ → Type 0
  AgreeBefore xs ys k = (p : Pair) → IsWanted windows times p → place p < k → HasPair xs p → HasPair ys p

  pub place_lt : (p q : Pair) → IsWanted windows times p → IsBefore p q → place p < place q
  unfolding place
  place_lt p q wanted first = rank_lt (length windows) (length times) p q (slice_get_within windows p.component wanted.window wanted.component_is) (slice_get_within times p.peak wanted.time wanted.peak_is) first

  -- a pair of one naming blocks the other where it is not in it, and the two agree on the earlier pairs
  blocks_other : (xs ys : List (Option ℕ)) (p : Pair) → IsNaming windows times xs → AgreeBefore ys xs (place p) → IsWanted windows times p → HasPair xs p → (HasPair ys p → ⊥) → Blocks windows times ys p
  blocks_other xs ys p xs_is agree wanted has lacks =
      record {
        wanted = wanted;
        component_would = λ q q_wanted q_has component.
            elim (order_of p q) [
              | before first ↦ first
              | after first ↦
                  let peak : q.peak ≡ p.peak = some_inj (sym (agree q q_wanted (place_lt q p q_wanted first) q_has) ∙ ap (peak_of xs) component ∙ has) in
                  absurd (lacks (ap (peak_of ys) (sym component) ∙ q_has ∙ ap Some peak))
              | same c peak ↦ absurd (lacks (ap (peak_of ys) c ∙ q_has ∙ ap Some (sym peak)))
            ];
        peak_would = λ q q_wanted q_has peak.
            elim (order_of p q) [
              | before first ↦ first
              | after first ↦
                  let component : q.component ≡ p.component = xs_is.no_peak_twice q.component p.component q.peak (agree q q_wanted (place_lt q p q_wanted first) q_has) (has ∙ ap Some (sym peak)) in
                  absurd (lacks (ap (peak_of ys) (sym component) ∙ q_has ∙ ap Some peak))
              | same c e ↦ absurd (lacks (ap (peak_of ys) c ∙ q_has ∙ ap Some (sym e)))
            ];
      }

  -- two namings that no pair blocks agree on the pairs whose places are below k
  agree_below : (xs ys : List (Option ℕ)) (k : ℕ) → IsUnblocked windows times xs → IsUnblocked windows times ys → AgreeBefore xs ys k × AgreeBefore ys xs k
  agree_below xs ys zero xs_is ys_is = (λ p wanted below. absurd (omega arith), λ p wanted below. absurd (omega arith))
  agree_below xs ys (suc k) xs_is ys_is =
      let known : AgreeBefore xs ys k × AgreeBefore ys xs k = agree_below xs ys k xs_is ys_is in (
        λ p wanted below has.
            elim (has_or_not ys p) [
              | inl there ↦ there
              | inr lacks ↦ absurd (ys_is.unblocked p (blocks_other xs ys p xs_is.is_naming (λ q q_wanted earlier. known.1 q q_wanted (omega arith)) wanted has lacks))
            ],
        λ p wanted below has.
            elim (has_or_not xs p) [
              | inl there ↦ there
              | inr lacks ↦ absurd (xs_is.unblocked p (blocks_other ys xs p ys_is.is_naming (λ q q_wanted earlier. known.0 q q_wanted (omega arith)) wanted has lacks))
            ],
      )

  -- so each component has the same peak in both
  same_entry : (xs ys : List (Option ℕ)) → IsUnblocked windows times xs → IsUnblocked windows times ys → (c : ℕ) (x y : Option ℕ) → peak_of xs c ≡ x → peak_of ys c ≡ y → x ≡ y
  same_entry xs ys xs_is ys_is c None None x_is y_is = refl
  same_entry xs ys xs_is ys_is c (Some p) y x_is y_is =
      let found : (d : ℕ) × IsWanted windows times (record { distance = d; component = c; peak = p }) = xs_is.is_naming.wanted c p x_is in
      let pair : Pair = record { distance = found.0; component = c; peak = p } in
      sym ((agree_below xs ys (suc (place pair)) xs_is ys_is).0 pair found.1 (omega arith) x_is) ∙ y_is
  same_entry xs ys xs_is ys_is c None (Some p) x_is y_is =
      let found : (d : ℕ) × IsWanted windows times (record { distance = d; component = c; peak = p }) = ys_is.is_naming.wanted c p y_is in
      let pair : Pair = record { distance = found.0; component = c; peak = p } in
      sym x_is ∙ (agree_below xs ys (suc (place pair)) xs_is ys_is).1 pair found.1 (omega arith) y_is

  -- there is one naming without a blocking pair
  pub same_naming : (xs ys : List (Option ℕ)) → IsUnblocked windows times xs → IsUnblocked windows times ys → xs ≡ ys
  same_naming xs ys xs_is ys_is =
      ext_get_or None xs ys (xs_is.is_naming.one_entry_each ∙ sym ys_is.is_naming.one_entry_each)
      (λ c within. same_entry xs ys xs_is ys_is c (peak_of xs c) (peak_of ys c) refl refl)
