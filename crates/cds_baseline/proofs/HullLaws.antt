-- The chain of vertices over which a baseline is stretched: what it keeps as points are added, and that it is the list
-- of nodes once all are. Points are numbered; x is the sample of a point, y its level, f whether it is fixed.
use Rattle.std.proofs.Common.{◌≡◌, ◌∙◌, ℕ, zero, suc, ◌+◌, ◌-◌, ◌*◌, ◌<◌, ◌≤◌, ℤ, pos, ◌+ℤ◌, ◌-ℤ◌, ◌*ℤ◌, ◌≤ℤ◌, ◌<ℤ◌, Bool, true, false, ◌⊎◌, inl, inr, sym, arith, refl}
use Rattle.std.specs.Prelude.{nat_le, not, ◌&&◌, List, length, take, [], ◌∷◌, ◌++◌}
use Rattle.std.proofs.lemmas.Int.{ints}
use Rattle.std.proofs.lemmas.Bool.{both_ways, cases_eq, cases_order, and_parts, and_cases, not-true, not-false, leb-true, leb-false}
use Rattle.std.proofs.lemmas.List.{length-take, length-append, get_or_at, get_or_append_left, get_or-take}
use Rattle.std.proofs.Math.Nat.{mul-le-mul_right, mul-lt-mul_of_pos_right, lt_of_mul-lt-mul_right}
use borrow.Author.Differences.{up, down, true_is_lt, false_is_lt, lt-true, lt-false}
use Rattle.cds_baseline.specs.Chain.{under_of, IsRising, IsHidden, IsChain, IsReached, is_top_hidden, vertex}
use Rattle.cds_baseline.proofs.SlopeLaws.{slope-trans, sub-mul}

-- the slope from a to b is at most the one from c to d
pub record AtMost (x : ℕ → ℕ) (y : ℕ → ℤ) (a b c d : ℕ) : Type 0 where
  pub le : ((y b -ℤ y a) *ℤ pos (x d - x c)) ≤ℤ ((y d -ℤ y c) *ℤ pos (x b - x a))

-- the slope from a to b is below the one from c to d
pub record Below (x : ℕ → ℕ) (y : ℕ → ℤ) (a b c d : ℕ) : Type 0 where
  pub lt : ((y b -ℤ y a) *ℤ pos (x d - x c)) <ℤ ((y d -ℤ y c) *ℤ pos (x b - x a))

-- slopes in order
AtMost-trans : (x : ℕ → ℕ) (y : ℕ → ℤ) (a b c d e g : ℕ) → x c < x d → AtMost x y a b c d → AtMost x y c d e g → AtMost x y a b e g
AtMost-trans x y a b c d e g some first second = record {
  le = slope-trans (y b -ℤ y a) (y d -ℤ y c) (y g -ℤ y e) (x b - x a) (x d - x c) (x g - x e) (omega arith) first.le second.le;
}

-- over plain numbers: a slope below one that is at most a third, and the other way round
below-le : (p q r : ℤ) (a b c : ℕ) → 0 < b → 0 < c → (p *ℤ pos b) <ℤ (q *ℤ pos a) → (q *ℤ pos c) ≤ℤ (r *ℤ pos b) → (p *ℤ pos c) <ℤ (r *ℤ pos a)
below-le p q r a b c some some' first second =
    let f : up p * b + down q * a < up q * a + down p * b = omega (arith, ints, first) in
    let s : up q * c + down r * b ≤ up r * b + down q * c = omega (arith, ints, second) in
    let times : (up p * c + down r * a) * b < (up r * a + down p * c) * b = omega (arith, mul-lt-mul_of_pos_right f some', mul-le-mul_right a s) in
    let cut = lt_of_mul-lt-mul_right b times in
    omega (arith, ints, cut)

le-below : (p q r : ℤ) (a b c : ℕ) → 0 < a → 0 < b → (p *ℤ pos b) ≤ℤ (q *ℤ pos a) → (q *ℤ pos c) <ℤ (r *ℤ pos b) → (p *ℤ pos c) <ℤ (r *ℤ pos a)
le-below p q r a b c some some' first second =
    let f : up p * b + down q * a ≤ up q * a + down p * b = omega (arith, ints, first) in
    let s : up q * c + down r * b < up r * b + down q * c = omega (arith, ints, second) in
    let times : (up p * c + down r * a) * b < (up r * a + down p * c) * b = omega (arith, mul-le-mul_right c f, mul-lt-mul_of_pos_right s some) in
    let cut = lt_of_mul-lt-mul_right b times in
    omega (arith, ints, cut)

-- three points, over plain numbers, of the levels u, v, w and the gaps m and n
bend : (u v w : ℤ) (m n : ℕ) →
    (u *ℤ pos n +ℤ w *ℤ pos m) +ℤ (v -ℤ u) *ℤ pos n ≡ v *ℤ pos (m + n) +ℤ (w -ℤ v) *ℤ pos m
bend u v w m n = rw (sub-mul v u n, sub-mul w v m) (omega (arith, ints))

bend-left : (u v w : ℤ) (m n : ℕ) → (w -ℤ u) *ℤ pos m +ℤ (v -ℤ u) *ℤ pos n ≡ (v -ℤ u) *ℤ pos (m + n) +ℤ (w -ℤ v) *ℤ pos m
bend-left u v w m n = rw (sub-mul w u m, sub-mul v u n, sub-mul v u (m + n), sub-mul w v m) (omega (arith, ints))

bend-right : (u v w : ℤ) (m n : ℕ) → (w -ℤ u) *ℤ pos n +ℤ (w -ℤ v) *ℤ pos m ≡ (v -ℤ u) *ℤ pos n +ℤ (w -ℤ v) *ℤ pos (m + n)
bend-right u v w m n = rw (sub-mul w u n, sub-mul v u n, sub-mul w v (m + n), sub-mul w v m) (omega (arith, ints))

-- what three points in a row have: the chord by the slopes left and right of the middle, and the slope of the whole
record Triple (x : ℕ → ℕ) (y : ℕ → ℤ) (a i b : ℕ) : Type 0 where
  left : x a < x i
  right : x i < x b
  chord : (y a *ℤ pos (x b - x i) +ℤ y b *ℤ pos (x i - x a)) +ℤ (y i -ℤ y a) *ℤ pos (x b - x i) ≡ y i *ℤ pos (x b - x a) +ℤ (y b -ℤ y i) *ℤ pos (x i - x a)
  by_left : (y b -ℤ y a) *ℤ pos (x i - x a) +ℤ (y i -ℤ y a) *ℤ pos (x b - x i) ≡ (y i -ℤ y a) *ℤ pos (x b - x a) +ℤ (y b -ℤ y i) *ℤ pos (x i - x a)
  by_right : (y b -ℤ y a) *ℤ pos (x b - x i) +ℤ (y b -ℤ y i) *ℤ pos (x i - x a) ≡ (y i -ℤ y a) *ℤ pos (x b - x i) +ℤ (y b -ℤ y i) *ℤ pos (x b - x a)

triple : (x : ℕ → ℕ) (y : ℕ → ℤ) (m a i b : ℕ) → IsRising x m → a < i → i < b → b < m → Triple x y a i b
triple x y m a i b rising left right inside =
    let l : x a < x i = rising a i left (omega arith) in
    let r : x i < x b = rising i b right inside in
    let whole : x b - x a ≡ (x i - x a) + (x b - x i) = omega arith in
    record {
      left = l;
      right = r;
      chord = rw whole (bend (y a) (y i) (y b) (x i - x a) (x b - x i));
      by_left = rw whole (bend-left (y a) (y i) (y b) (x i - x a) (x b - x i));
      by_right = rw whole (bend-right (y a) (y i) (y b) (x i - x a) (x b - x i));
    }

-- the middle of three points isn't under the chord: the slope right of it is at most the one left of it, and both
-- bound the slope of the whole
over-left : (x : ℕ → ℕ) (y : ℕ → ℤ) (a i b : ℕ) → Triple x y a i b → under_of x y a i b ≡ false → AtMost x y a b a i
over-left x y a i b t over = record {
  le = omega (arith, ints, t.chord, t.by_left, lt-false (y i *ℤ pos (x b - x a)) (y a *ℤ pos (x b - x i) +ℤ y b *ℤ pos (x i - x a)) over);
}

over-right : (x : ℕ → ℕ) (y : ℕ → ℤ) (a i b : ℕ) → Triple x y a i b → under_of x y a i b ≡ false → AtMost x y i b a b
over-right x y a i b t over = record {
  le = omega (arith, ints, t.chord, t.by_right, lt-false (y i *ℤ pos (x b - x a)) (y a *ℤ pos (x b - x i) +ℤ y b *ℤ pos (x i - x a)) over);
}

-- and each of the two bounds shows it
over-from_left : (x : ℕ → ℕ) (y : ℕ → ℤ) (a i b : ℕ) → Triple x y a i b → AtMost x y a b a i → under_of x y a i b ≡ false
over-from_left x y a i b t h =
    sym (false_is_lt (y i *ℤ pos (x b - x a)) (y a *ℤ pos (x b - x i) +ℤ y b *ℤ pos (x i - x a)) (omega (arith, ints, t.chord, t.by_left, h.le)))

over-from_right : (x : ℕ → ℕ) (y : ℕ → ℤ) (a i b : ℕ) → Triple x y a i b → AtMost x y i b a b → under_of x y a i b ≡ false
over-from_right x y a i b t h =
    sym (false_is_lt (y i *ℤ pos (x b - x a)) (y a *ℤ pos (x b - x i) +ℤ y b *ℤ pos (x i - x a)) (omega (arith, ints, t.chord, t.by_right, h.le)))

-- the chord passes above the middle: the slope left of it is below the one right of it
under-bends : (x : ℕ → ℕ) (y : ℕ → ℤ) (a i b : ℕ) → Triple x y a i b → under_of x y a i b ≡ true → Below x y a i i b
under-bends x y a i b t under = record {
  lt = omega (arith, ints, t.chord, lt-true (y i *ℤ pos (x b - x a)) (y a *ℤ pos (x b - x i) +ℤ y b *ℤ pos (x i - x a)) under);
}

bends-under : (x : ℕ → ℕ) (y : ℕ → ℤ) (a i b : ℕ) → Triple x y a i b → Below x y a i i b → under_of x y a i b ≡ true
bends-under x y a i b t h =
    sym (true_is_lt (y i *ℤ pos (x b - x a)) (y a *ℤ pos (x b - x i) +ℤ y b *ℤ pos (x i - x a)) (omega (arith, ints, t.chord, h.lt)))

-- the slope left of the middle is at most the one right of it: the slope of the whole lies between
rises-left : (x : ℕ → ℕ) (y : ℕ → ℤ) (a i b : ℕ) → Triple x y a i b → AtMost x y a i i b → AtMost x y a i a b
rises-left x y a i b t h = record { le = omega (arith, ints, t.by_left, h.le) }

rises-right : (x : ℕ → ℕ) (y : ℕ → ℤ) (a i b : ℕ) → Triple x y a i b → AtMost x y a i i b → AtMost x y a b i b
rises-right x y a i b t h = record { le = omega (arith, ints, t.by_right, h.le) }

-- a chain without its last vertices is one
pub chain-shorter : (x : ℕ → ℕ) (y : ℕ → ℤ) (f : ℕ → Bool) (s : ℕ → ℕ) (q n : ℕ) → n ≤ q → IsChain x y f s q → IsChain x y f s n
chain-shorter x y f s q n short h = record {
  first = λ some. h.first (omega arith);
  rises = λ j below. h.rises j (omega arith);
  hides = λ j c below. h.hides j c (omega arith);
  bends = λ j below. h.bends j (omega arith);
}

-- the last vertex is left out by the chord from the one before it to a new point, and with it all between
pub reached-drop : (x : ℕ → ℕ) (y : ℕ → ℤ) (f : ℕ → Bool) (s : ℕ → ℕ) (m q next : ℕ) → IsRising x m → next < m → IsChain x y f s (q + 2) →
    IsReached x y f s (q + 2) next → f (s (q + 1)) ≡ false → under_of x y (s q) (s (q + 1)) next ≡ false → IsReached x y f s (q + 1) next
reached-drop x y f s m q next rising inside chain reached free over =
    let last : q + 2 - 1 ≡ q + 1 = omega arith in
    let before : q + 1 - 1 ≡ q = omega arith in
    let step : s q < s (q + 1) = chain.rises q (omega arith) in
    let far : s (q + 1) < next = reached.below (q + 1) (omega arith) in
    let whole = triple x y m (s q) (s (q + 1)) next rising step far inside in
    let hidden : (c : ℕ) → s q < c → c < next → IsHidden x y f (s q) c next = λ c after under.
    elim (cases_order c (s (q + 1))) [
      | inl same ↦ record { free = rw same free; over = rw same over }
      | inr (inl left) ↦
          let h = chain.hides q c (omega arith) after left in
          record {
            free = h.free;
            over = over-from_left x y (s q) c next (triple x y m (s q) c next rising after under inside)
                (AtMost-trans x y (s q) next (s q) (s (q + 1)) (s q) c (omega (arith, whole.left)) (over-left x y (s q) (s (q + 1)) next whole over)
                (over-left x y (s q) c (s (q + 1)) (triple x y m (s q) c (s (q + 1)) rising after left (omega arith)) h.over));
          }
      | inr (inr right) ↦
          let h : IsHidden x y f (s (q + 1)) c next = rw last at (reached.hides c (omega arith) (rw last right) under) in
          record {
            free = h.free;
            over = over-from_right x y (s q) c next (triple x y m (s q) c next rising after under inside)
                (AtMost-trans x y c next (s (q + 1)) next (s q) next (omega (arith, whole.right))
                (over-right x y (s (q + 1)) c next (triple x y m (s (q + 1)) c next rising right under inside) h.over)
                (over-right x y (s q) (s (q + 1)) next whole over));
          }
    ] in
    record {
      below = λ j below. reached.below j (omega arith);
      hides = λ c some after under. rw before (hidden c (rw before at after) under);
    }

-- a chain with a new vertex, to which the last one isn't hidden
pub chain-longer : (x : ℕ → ℕ) (y : ℕ → ℤ) (f : ℕ → Bool) (s s' : ℕ → ℕ) (q next : ℕ) → IsChain x y f s q → IsReached x y f s q next →
    (q ≡ 0 → next ≡ 0) → (2 ≤ q → (f (s (q - 1)) ≡ true) ⊎ (under_of x y (s (q - 2)) (s (q - 1)) next ≡ true)) →
    ((j : ℕ) → j < q → s' j ≡ s j) → s' q ≡ next → IsChain x y f s' (q + 1)
chain-longer x y f s s' q next chain reached start kept same new = record {
  first = λ some. elim (cases_eq q 0) [
    | inl none ↦ rw none at new ∙ start none
    | inr more ↦ same 0 (omega arith) ∙ chain.first (omega arith)
  ];
  rises = λ j below. elim (cases_eq (j + 1) q) [
    | inl last ↦ rw (same j (omega arith), last, new) (reached.below j (omega arith))
    | inr other ↦ rw (same j (omega arith), same (j + 1) (omega arith)) (chain.rises j (omega arith))
  ];
  hides = λ j c below after under. elim (cases_eq (j + 1) q) [
    | inl last ↦
        let at : q - 1 ≡ j = omega arith in
        let after' = rw (same j (omega arith)) at after in
        let under' = rw (last, new) at under in
        rw (same j (omega arith), last, new) (rw at at (reached.hides c (omega arith) (rw at after') under'))
    | inr other ↦
        let here = same j (omega arith) in
        let next' = same (j + 1) (omega arith) in
        rw (here, next') (chain.hides j c (omega arith) (rw here at after) (rw next' at under))
  ];
  bends = λ j below. elim (cases_eq (j + 2) q) [
    | inl last ↦
        let a : q - 2 ≡ j = omega arith in
        let b : q - 1 ≡ j + 1 = omega arith in
        rw (same j (omega arith), same (j + 1) (omega arith), last, new) (rw (a, b) at (kept (omega arith)))
    | inr other ↦ rw (same j (omega arith), same (j + 1) (omega arith), same (j + 2) (omega arith)) (chain.bends j (omega arith))
  ];
}

-- vertices stand in the order of their points
pub chain-order : (x : ℕ → ℕ) (y : ℕ → ℤ) (f : ℕ → Bool) (s : ℕ → ℕ) (q : ℕ) → IsChain x y f s q → (j d : ℕ) → j + d < q → s j ≤ s (j + d)
chain-order x y f s q chain j zero below = let e : j + 0 ≡ j = omega arith in rw e (omega arith)
chain-order x y f s q chain j (suc d) below =
    let e : j + suc d ≡ j + d + 1 = omega arith in
    rw e (omega (arith, chain-order x y f s q chain j d (omega arith), chain.rises (j + d) (omega arith)))

-- the point behind the last vertex is reached
pub reached-next : (x : ℕ → ℕ) (y : ℕ → ℤ) (f : ℕ → Bool) (s : ℕ → ℕ) (q next : ℕ) → IsChain x y f s q → (0 < q → s (q - 1) + 1 ≡ next) → IsReached x y f s q next
reached-next x y f s q next chain last = record {
  below = λ j below.
      let e : j + (q - 1 - j) ≡ q - 1 = omega arith in
      omega (arith, rw e at (chain-order x y f s q chain j (q - 1 - j) (omega arith)), last (omega arith));
  hides = λ c some after under. absurd (omega (arith, last some));
}

-- of q vertices the first `count` stay so far, and the new point is reached from the last of them
pub record IsKeeping (x : ℕ → ℕ) (y : ℕ → ℤ) (f : ℕ → Bool) (s : ℕ → ℕ) (q count next : ℕ) : Type 0 where
  pub few : count ≤ q
  pub some : 0 < q → 0 < count
  pub chain : IsChain x y f s count
  pub reached : IsReached x y f s count next

-- what a hidden top says
pub top-parts : (x : ℕ → ℕ) (y : ℕ → ℤ) (f : ℕ → Bool) (s : ℕ → ℕ) (q next : ℕ) → is_top_hidden x y f s q next ≡ true →
    (2 ≤ q) × (f (s (q - 1)) ≡ false) × (under_of x y (s (q - 2)) (s (q - 1)) next ≡ false)
top-parts x y f s q next hidden =
    let parts = and_parts _ _ hidden in
    let rest = and_parts _ _ parts.1 in
    (leb-true 2 q parts.0, not-true _ rest.0, not-true _ rest.1)

-- a top that isn't hidden is fixed, or the chain bends at it
pub top-kept : (x : ℕ → ℕ) (y : ℕ → ℤ) (f : ℕ → Bool) (s : ℕ → ℕ) (q next : ℕ) → is_top_hidden x y f s q next ≡ false → 2 ≤ q →
    (f (s (q - 1)) ≡ true) ⊎ (under_of x y (s (q - 2)) (s (q - 1)) next ≡ true)
top-kept x y f s q next shown two =
    elim (and_cases (nat_le 2 q) (not (f (s (q - 1))) && not (under_of x y (s (q - 2)) (s (q - 1)) next)) shown) [
      | inl short ↦ absurd (omega (arith, leb-false 2 q short))
      | inr rest ↦ elim (and_cases (not (f (s (q - 1)))) (not (under_of x y (s (q - 2)) (s (q - 1)) next)) rest) [
        | inl fixed ↦ inl (not-false (f (s (q - 1))) fixed)
        | inr under ↦ inr (not-false (under_of x y (s (q - 2)) (s (q - 1)) next) under)
      ]
    ]

-- one vertex less
pub keeping-drop : (x : ℕ → ℕ) (y : ℕ → ℤ) (f : ℕ → Bool) (s : ℕ → ℕ) (m q count next : ℕ) → IsRising x m → next < m → IsKeeping x y f s q count next →
    is_top_hidden x y f s count next ≡ true → IsKeeping x y f s q (count - 1) next
keeping-drop x y f s m q count next rising inside h hidden =
    let parts = top-parts x y f s count next hidden in
    let two : 2 ≤ count = parts.0 in
    let whole : count ≡ count - 2 + 2 = omega arith in
    let top : count - 1 ≡ count - 2 + 1 = omega arith in
    let reached = reached-drop x y f s m (count - 2) next rising inside (rw whole at h.chain) (rw whole at h.reached) (rw top at parts.1) (rw top at parts.2) in
    record {
      few = omega (arith, h.few);
      some = λ some. omega arith;
      chain = chain-shorter x y f s count (count - 1) (omega arith) h.chain;
      reached = rw top reached;
    }

-- a chain over the first k points, as a list of q numbers of points
pub record IsChainOver (x : ℕ → ℕ) (y : ℕ → ℤ) (f : ℕ → Bool) (numbers : List ℕ) (q k : ℕ) : Type 0 where
  pub whole : length numbers ≡ q
  pub chain : IsChain x y f (vertex numbers) q
  pub some : 0 < k → 0 < q
  pub last : 0 < q → vertex numbers (q - 1) + 1 ≡ k

-- over no point
pub chain_over-none : (x : ℕ → ℕ) (y : ℕ → ℤ) (f : ℕ → Bool) → IsChainOver x y f [] 0 0
chain_over-none x y f = record {
  whole = refl;
  chain = record {
    first = λ some. absurd (omega arith);
    rises = λ j below. absurd (omega arith);
    hides = λ j c below after under. absurd (omega arith);
    bends = λ j below. absurd (omega arith);
  };
  some = λ some. some;
  last = λ some. absurd (omega arith);
}

-- over one point more
pub chain_over-next : (x : ℕ → ℕ) (y : ℕ → ℤ) (f : ℕ → Bool) (old : List ℕ) (q count k : ℕ) → IsChainOver x y f old q k →
    count ≤ q → (0 < q → 0 < count) → IsReached x y f (vertex old) count k → is_top_hidden x y f (vertex old) count k ≡ false →
    IsChainOver x y f (take count old ++ k ∷ []) (count + 1) (k + 1)
chain_over-next x y f old q count k h few some reached shown =
    let front : length (take count old) ≡ count = omega (arith, length-take count old, h.whole) in
    let at : count + 1 - 1 ≡ count = omega arith in
    let new : vertex (take count old ++ k ∷ []) count ≡ k = get_or_at (take count old) k [] 0 count front in
    let same : (j : ℕ) → j < count → vertex (take count old ++ k ∷ []) j ≡ vertex old j = λ j below.
    let inside : j < length (take count old) = rw front below in
    get_or_append_left (take count old) (k ∷ []) 0 j inside ∙ get_or-take count old j 0 below in
    record {
      whole = omega (arith, length-append (take count old) (k ∷ []), front);
      chain = chain-longer x y f (vertex old) (vertex (take count old ++ k ∷ [])) count k (chain-shorter x y f (vertex old) q count few h.chain) reached
          (λ none. elim (cases_eq k 0) [ inl zero' ↦ zero' | inr other ↦ absurd (omega (arith, h.some (omega arith), some)) ])
          (top-kept x y f (vertex old) count k shown) same new;
      some = λ some. omega arith;
      last = λ some. rw (at, new) refl;
    }

-- left of a vertex, in its stretch, no slope to it is steeper than the one from the vertex before
left-slopes : (x : ℕ → ℕ) (y : ℕ → ℤ) (f : ℕ → Bool) (s : ℕ → ℕ) (m q : ℕ) → IsRising x m → IsChain x y f s q → ((j : ℕ) → j < q → s j < m) →
    (j a : ℕ) → j + 1 < q → a < s (j + 1) → ((k : ℕ) → a < k → k < s (j + 1) → f k ≡ false) → AtMost x y a (s (j + 1)) (s j) (s (j + 1))
left-slopes x y f s m q rising chain inside zero a below left free =
    let e : 0 + 1 ≡ 1 = omega arith in
    let first = chain.first (omega arith) in
    let here = chain.rises 0 (omega arith) in
    elim (cases_eq a (s 0)) [
      | inl same ↦ rw same (record { le = omega (arith, ints) })
      | inr other ↦
          let t = triple x y m (s 0) a (s 1) rising (omega arith) (rw e at left) (inside 1 (omega arith)) in
          rw e (over-right x y (s 0) a (s 1) t (chain.hides 0 a (omega arith) (omega arith) left).over)
    ]
left-slopes x y f s m q rising chain inside (suc j) a below left free =
    let e : suc j ≡ j + 1 = omega arith in
    let e' : suc j + 1 ≡ j + 2 = omega arith in
    let here : s (j + 1) < s (j + 2) = rw (e', e) at (chain.rises (suc j) below) in
    let here' : s (j + 1) < s (suc j + 1) = rw e' here in
    let end : s (j + 2) < m = inside (j + 2) (omega arith) in
    let left' = rw e' at left in
    rw (e', e)
    (elim (cases_order a (s (j + 1))) [
      | inl same ↦ rw same (record { le = omega (arith, ints) })
      | inr (inl before) ↦
          let bend : Below x y (s j) (s (j + 1)) (s (j + 1)) (s (j + 2)) = elim (chain.bends j (omega arith)) [
            | inl fixed ↦ absurd (both_ways (f (s (j + 1))) (free (s (j + 1)) before here') fixed)
            | inr under ↦ under-bends x y (s j) (s (j + 1)) (s (j + 2)) (triple x y m (s j) (s (j + 1)) (s (j + 2)) rising (chain.rises j (omega arith)) here end) under
          ] in
          let rest = left-slopes x y f s m q rising chain inside j a (omega arith) before (λ k after under. free k after (omega arith)) in
          rises-right x y a (s (j + 1)) (s (j + 2)) (triple x y m a (s (j + 1)) (s (j + 2)) rising before here end)
          (AtMost-trans x y a (s (j + 1)) (s j) (s (j + 1)) (s (j + 1)) (s (j + 2)) (rising (s j) (s (j + 1)) (chain.rises j (omega arith)) (omega (arith, here, end))) rest
          (record { le = omega (arith, ints, bend.lt) }))
      | inr (inr after) ↦
          let t = triple x y m (s (j + 1)) a (s (j + 2)) rising after left' end in
          over-right x y (s (j + 1)) a (s (j + 2)) t (rw (e', e) at (chain.hides (suc j) a below (rw e after) left)).over
    ])

-- right of a vertex, as far as the next one, no slope from it is less than the one to that
right-near : (x : ℕ → ℕ) (y : ℕ → ℤ) (f : ℕ → Bool) (s : ℕ → ℕ) (m q : ℕ) → IsRising x m → IsChain x y f s q → ((j : ℕ) → j < q → s j < m) →
    (j b : ℕ) → j + 1 < q → s j < b → (s (j + 1) < b → AtMost x y (s j) (s (j + 1)) (s j) b) → AtMost x y (s j) (s (j + 1)) (s j) b
right-near x y f s m q rising chain inside j b below right beyond =
    elim (cases_order b (s (j + 1))) [
      | inl same ↦ rw same (record { le = omega (arith, ints) })
      | inr (inl before) ↦
          over-left x y (s j) b (s (j + 1)) (triple x y m (s j) b (s (j + 1)) rising right before (inside (j + 1) below))
          (chain.hides j b below right before).over
      | inr (inr after) ↦ beyond after
    ]

-- right of a vertex, in its stretch, no slope from it is less than the one to the next vertex
right-slopes : (x : ℕ → ℕ) (y : ℕ → ℤ) (f : ℕ → Bool) (s : ℕ → ℕ) (m q : ℕ) → IsRising x m → IsChain x y f s q → ((j : ℕ) → j < q → s j < m) →
    (0 < q → s (q - 1) + 1 ≡ m) → (more j b : ℕ) → j + more + 2 ≡ q → s j < b → b < m → ((k : ℕ) → s j < k → k < b → f k ≡ false) →
    AtMost x y (s j) (s (j + 1)) (s j) b
right-slopes x y f s m q rising chain inside whole zero j b count right within free =
    right-near x y f s m q rising chain inside j b (omega arith) right
    (λ after.
    let last : q - 1 ≡ j + 1 = omega arith in
    let end : s (j + 1) + 1 ≡ m = rw last at (whole (omega arith)) in
    absurd (omega arith))
right-slopes x y f s m q rising chain inside whole (suc more) j b count right within free =
    right-near x y f s m q rising chain inside j b (omega arith) right
    (λ after.
    let here : s j < s (j + 1) = chain.rises j (omega arith) in
    let e : j + 1 + 1 ≡ j + 2 = omega arith in
    let next : s (j + 1) < s (j + 2) = rw e at (chain.rises (j + 1) (omega arith)) in
    let bend : Below x y (s j) (s (j + 1)) (s (j + 1)) (s (j + 2)) = elim (chain.bends j (omega arith)) [
      | inl fixed ↦ absurd (both_ways (f (s (j + 1))) (free (s (j + 1)) here after) fixed)
      | inr under ↦ under-bends x y (s j) (s (j + 1)) (s (j + 2)) (triple x y m (s j) (s (j + 1)) (s (j + 2)) rising here next (inside (j + 2) (omega arith))) under
    ] in
    let rest : AtMost x y (s (j + 1)) (s (j + 2)) (s (j + 1)) b =
    rw e at (right-slopes x y f s m q rising chain inside whole more (j + 1) b (omega arith) after within (λ k past under. free k (omega arith) under)) in
    rises-left x y (s j) (s (j + 1)) b (triple x y m (s j) (s (j + 1)) b rising here after within)
    (AtMost-trans x y (s j) (s (j + 1)) (s (j + 1)) (s (j + 2)) (s (j + 1)) b (rising (s (j + 1)) (s (j + 2)) next (inside (j + 2) (omega arith)))
    (record { le = omega (arith, ints, bend.lt) }) rest))

-- a free vertex inside the chain: every chord over it in its stretch passes above it
pub vertex-above : (x : ℕ → ℕ) (y : ℕ → ℤ) (f : ℕ → Bool) (s : ℕ → ℕ) (m q : ℕ) → IsRising x m → IsChain x y f s q → ((j : ℕ) → j < q → s j < m) →
    (0 < q → s (q - 1) + 1 ≡ m) → (j a b : ℕ) → j + 2 < q → f (s (j + 1)) ≡ false → a < s (j + 1) → s (j + 1) < b → b < m →
    ((k : ℕ) → a < k → k < b → f k ≡ false) → under_of x y a (s (j + 1)) b ≡ true
vertex-above x y f s m q rising chain inside whole j a b below free left right within stretch =
    let i : ℕ = s (j + 1) in
    let e : j + 1 + 1 ≡ j + 2 = omega arith in
    let before : s j < s (j + 1) = chain.rises j (omega arith) in
    let after : s (j + 1) < s (j + 2) = rw e at (chain.rises (j + 1) (omega arith)) in
    let bend : Below x y (s j) (s (j + 1)) (s (j + 1)) (s (j + 2)) = elim (chain.bends j below) [
      | inl fixed ↦ absurd (both_ways (f (s (j + 1))) free fixed)
      | inr under ↦ under-bends x y (s j) (s (j + 1)) (s (j + 2)) (triple x y m (s j) (s (j + 1)) (s (j + 2)) rising before after (inside (j + 2) below)) under
    ] in
    let to : AtMost x y a (s (j + 1)) (s j) (s (j + 1)) = left-slopes x y f s m q rising chain inside j a (omega arith) left (λ k past under. stretch k past (omega arith)) in
    let from : AtMost x y (s (j + 1)) (s (j + 2)) (s (j + 1)) b =
    rw e at (right-slopes x y f s m q rising chain inside whole (q - (j + 3)) (j + 1) b (omega arith) right within (λ k past under. stretch k (omega arith) under)) in
    let run_a : x a < x i = rising a i left (inside (j + 1) (omega arith)) in
    let run_j : x (s j) < x i = rising (s j) i before (inside (j + 1) (omega arith)) in
    let run_n : x i < x (s (j + 2)) = rising i (s (j + 2)) after (inside (j + 2) below) in
    let run_b : x i < x b = rising i b right within in
    let first = le-below (y i -ℤ y a) (y i -ℤ y (s j)) (y (s (j + 2)) -ℤ y i) (x i - x a) (x i - x (s j)) (x (s (j + 2)) - x i)
    (omega arith) (omega arith) to.le bend.lt in
    let both = below-le (y i -ℤ y a) (y (s (j + 2)) -ℤ y i) (y b -ℤ y i) (x i - x a) (x (s (j + 2)) - x i) (x b - x i)
    (omega arith) (omega arith) first from.le in
    bends-under x y a i b (triple x y m a i b rising left right within) (record { lt = both })
