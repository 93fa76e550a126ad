-- The vertices of a whole chain are the nodes, each of them and no other point.
use Rattle.std.proofs.Common.{◌≡◌, ◌∙◌, ℕ, zero, suc, ◌+◌, ◌-◌, ◌<◌, ◌≤◌, ℤ, pos, Bool, true, false, inl, inr, List, [], ◌∷◌, ◌++◌, length, get_or, map, take, ap, sym, arith, refl}
use Rattle.std.specs.Prelude.{nat_lt, not, ◌&&◌, ◌||◌}
use Rattle.std.proofs.lemmas.Bool.{both_ways, cases_lt, cases_eq, cases_Bool, and_parts, and_from, and_left, and_right, lt-ltb, le-ltb, ltb-true}
use Rattle.std.proofs.lemmas.List.{take_all, take_more, get_or_default, get_or-map}
use Rattle.cds_trace.specs.Signal.{Signal, sample_at}
use Rattle.cds_baseline.specs.Nodes.{sample_of, is_fixed, node_samples}
use Rattle.cds_baseline.specs.Chain.{under_of, IsRising, IsChain, vertex, level_of}
use Rattle.cds_baseline.specs.Numbers.{each_below, passing}
use Rattle.cds_baseline.proofs.NumberLaws.{each_below-from, each_below-at, each_below-fails}
use Rattle.cds_baseline.proofs.HullLaws.{vertex-above, chain-order}

-- whether points a and b stand in one stretch
abbrev pub stretch_of : (ℕ → Bool) → ℕ → ℕ → Bool
stretch_of f a b = each_below (λ k. not (nat_lt a k && f k)) b

-- whether point i is a node
abbrev pub node_of : (ℕ → ℕ) → (ℕ → ℤ) → (ℕ → Bool) → ℕ → ℕ → Bool
node_of x y f m i = f i || each_below (λ a. each_below (λ b. not (nat_lt i b && stretch_of f a b) || under_of x y a i b) m) i

or_left : (p r : Bool) → p ≡ true → (p || r) ≡ true
or_left p r e = rw e refl

or_right : (p r : Bool) → r ≡ true → (p || r) ≡ true
or_right p r e = elim p as (λ v. (v || r) ≡ true) [ true ↦ refl | false ↦ e ]

-- a test that holds where its premise does
implied : (p r : Bool) → (p ≡ true → r ≡ true) → (not p || r) ≡ true
implied p r h = elim (cases_Bool p) [ inl yes' ↦ or_right (not p) r (h yes') | inr no' ↦ rw no' refl ]

-- in a stretch no point between is fixed
stretch-free : (f : ℕ → Bool) (a b : ℕ) → stretch_of f a b ≡ true → (k : ℕ) → a < k → k < b → f k ≡ false
stretch-free f a b h k after before =
    elim (cases_Bool (f k)) [
      | inl fixed ↦
          let both : (nat_lt a k && f k) ≡ true = and_from (nat_lt a k) (f k) (lt-ltb a k after) fixed in
          absurd (both_ways (not (nat_lt a k && f k)) (rw both refl) (each_below-at (λ n. not (nat_lt a n && f n)) b k h before))
      | inr free ↦ free
    ]

free-stretch : (f : ℕ → Bool) (a b : ℕ) → ((k : ℕ) → a < k → k < b → f k ≡ false) → stretch_of f a b ≡ true
free-stretch f a b free =
    each_below-from (λ k. not (nat_lt a k && f k)) b
    (λ k before. elim (cases_lt a k) [
      | inl after ↦ let e : (nat_lt a k && f k) ≡ false = and_right (nat_lt a k) (f k) (free k after before) in rw e refl
      | inr other ↦ let e : (nat_lt a k && f k) ≡ false = and_left (nat_lt a k) (f k) (le-ltb a k other) in rw e refl
    ])

-- vertices are points
pub vertex-inside : (x : ℕ → ℕ) (y : ℕ → ℤ) (f : ℕ → Bool) (s : ℕ → ℕ) (m q : ℕ) → IsChain x y f s q → (0 < q → s (q - 1) + 1 ≡ m) →
    (j : ℕ) → j < q → s j < m
vertex-inside x y f s m q chain whole j below =
    let e : j + (q - 1 - j) ≡ q - 1 = omega arith in
    let order : s j ≤ s (q - 1) = rw e at (chain-order x y f s q chain j (q - 1 - j) (omega arith)) in
    omega (arith, whole (omega arith))

-- each vertex is a node
vertex-node : (x : ℕ → ℕ) (y : ℕ → ℤ) (f : ℕ → Bool) (s : ℕ → ℕ) (m q : ℕ) → IsRising x m → IsChain x y f s q → (0 < q → s (q - 1) + 1 ≡ m) →
    f 0 ≡ true → f (m - 1) ≡ true → (j : ℕ) → j < q → node_of x y f m (s j) ≡ true
vertex-node x y f s m q rising chain whole first last zero below =
    or_left (f (s 0)) _ (rw (chain.first (omega arith)) first)
vertex-node x y f s m q rising chain whole first last (suc j) below =
    let e : suc j ≡ j + 1 = omega arith in
    rw e
    (elim (cases_eq (j + 2) q) [
      | inl end ↦
          let at : q - 1 ≡ j + 1 = omega arith in
          let here : s (j + 1) + 1 ≡ m = rw at at (whole (omega arith)) in
          let last' : m - 1 ≡ s (j + 1) = omega arith in
          or_left (f (s (j + 1))) _ (rw last' at last)
      | inr other ↦ elim (cases_Bool (f (s (j + 1)))) [
        | inl fixed ↦ or_left (f (s (j + 1))) _ fixed
        | inr free ↦ or_right (f (s (j + 1))) _
            (each_below-from (λ a. each_below (λ b. not (nat_lt (s (j + 1)) b && stretch_of f a b) || under_of x y a (s (j + 1)) b) m) (s (j + 1))
            (λ a left. each_below-from (λ b. not (nat_lt (s (j + 1)) b && stretch_of f a b) || under_of x y a (s (j + 1)) b) m
            (λ b within. implied (nat_lt (s (j + 1)) b && stretch_of f a b) (under_of x y a (s (j + 1)) b)
            (λ both.
            let parts = and_parts (nat_lt (s (j + 1)) b) (stretch_of f a b) both in
            vertex-above x y f s m q rising chain (vertex-inside x y f s m q chain whole) whole j a b (omega arith) free left
            (ltb-true (s (j + 1)) b parts.0) within (stretch-free f a b parts.1)))))
      ]
    ])

-- a point between two vertices is none
hidden-no_node : (x : ℕ → ℕ) (y : ℕ → ℤ) (f : ℕ → Bool) (s : ℕ → ℕ) (m q : ℕ) → IsChain x y f s q → (0 < q → s (q - 1) + 1 ≡ m) →
    (j c : ℕ) → j + 1 < q → s j < c → c < s (j + 1) → node_of x y f m c ≡ false
hidden-no_node x y f s m q chain whole j c below after before =
    let h = chain.hides j c below after before in
    let right : nat_lt c (s (j + 1)) ≡ true = lt-ltb c (s (j + 1)) before in
    let stretch : stretch_of f (s j) (s (j + 1)) ≡ true =
    free-stretch f (s j) (s (j + 1)) (λ k past under. (chain.hides j k below past under).free) in
    let one : (not (nat_lt c (s (j + 1)) && stretch_of f (s j) (s (j + 1))) || under_of x y (s j) c (s (j + 1))) ≡ false = rw (right, stretch, h.over) refl in
    let row : each_below (λ b. not (nat_lt c b && stretch_of f (s j) b) || under_of x y (s j) c b) m ≡ false =
    each_below-fails (λ b. not (nat_lt c b && stretch_of f (s j) b) || under_of x y (s j) c b) m (s (j + 1))
    (vertex-inside x y f s m q chain whole (j + 1) below) one in
    let all : each_below (λ a. each_below (λ b. not (nat_lt c b && stretch_of f a b) || under_of x y a c b) m) c ≡ false =
    each_below-fails (λ a. each_below (λ b. not (nat_lt c b && stretch_of f a b) || under_of x y a c b) m) c (s j) after row in
    rw (h.free, all) refl

-- numbers that don't pass add nothing
passing-none : (test : ℕ → Bool) (n more : ℕ) → ((c : ℕ) → n ≤ c → c < n + more → test c ≡ false) → passing test (n + more) ≡ passing test n
passing-none test n zero each = let e : n + 0 ≡ n = omega arith in rw e refl
passing-none test n (suc more) each =
    let e : n + suc more ≡ suc (n + more) = omega arith in
    rw (e, each (n + more) (omega arith) (omega arith)) (passing-none test n more (λ c from below. each c from (omega arith)))

-- a number that passes is added
passing-one : (test : ℕ → Bool) (n : ℕ) → test n ≡ true → passing test (n + 1) ≡ passing test n ++ n ∷ []
passing-one test n e = let s : n + 1 ≡ suc n = omega arith in rw (s, e) refl

-- what passes, of rising numbers that do with none between that does, is these numbers
passing-front : (test : ℕ → Bool) (numbers : List ℕ) → vertex numbers 0 ≡ 0 →
    ((j : ℕ) → j + 1 < length numbers → vertex numbers j < vertex numbers (j + 1)) → ((j : ℕ) → j < length numbers → test (vertex numbers j) ≡ true) →
    ((j c : ℕ) → j + 1 < length numbers → vertex numbers j < c → c < vertex numbers (j + 1) → test c ≡ false) →
    (j : ℕ) → j < length numbers → passing test (vertex numbers j + 1) ≡ take (j + 1) numbers
passing-front test numbers start rises pass between zero below =
    let one = passing-one test (vertex numbers 0) (pass 0 below) in
    let none : passing test (vertex numbers 0) ≡ [] = rw start refl in
    one ∙ rw none (sym (take_more numbers 0 0 below))
passing-front test numbers start rises pass between (suc j) below =
    let e : suc j ≡ j + 1 = omega arith in
    let up = rises j (omega arith) in
    let gap : vertex numbers (j + 1) ≡ vertex numbers j + 1 + (vertex numbers (j + 1) - (vertex numbers j + 1)) = omega arith in
    let none : passing test (vertex numbers j + 1 + (vertex numbers (j + 1) - (vertex numbers j + 1))) ≡ passing test (vertex numbers j + 1) =
    passing-none test (vertex numbers j + 1) (vertex numbers (j + 1) - (vertex numbers j + 1)) (λ c from under. between j c (omega arith) (omega arith) (omega arith)) in
    let before : passing test (vertex numbers (j + 1)) ≡ take (j + 1) numbers = ap (passing test) gap ∙ none ∙ passing-front test numbers start rises pass between j (omega arith) in
    rw e (passing-one test (vertex numbers (j + 1)) (pass (j + 1) (omega arith)) ∙ rw before (sym (take_more numbers (j + 1) 0 (omega arith))))

-- the numbers of a whole chain are those of the nodes
pub chain-nodes : (x : ℕ → ℕ) (y : ℕ → ℤ) (f : ℕ → Bool) (m : ℕ) (numbers : List ℕ) → IsRising x m → IsChain x y f (vertex numbers) (length numbers) →
    0 < length numbers → vertex numbers (length numbers - 1) + 1 ≡ m → f 0 ≡ true → f (m - 1) ≡ true →
    passing (node_of x y f m) m ≡ numbers
chain-nodes x y f m numbers rising chain some end first last =
    let q : ℕ = length numbers in
    let whole : 0 < q → vertex numbers (q - 1) + 1 ≡ m = λ any. end in
    let front = passing-front (node_of x y f m) numbers (chain.first some) chain.rises
    (vertex-node x y f (vertex numbers) m q rising chain whole first last)
    (hidden-no_node x y f (vertex numbers) m q chain whole) (q - 1) (omega arith) in
    let all : q - 1 + 1 ≡ q = omega arith in
    rw (end, all) at front ∙ take_all q numbers (omega arith)

-- a chain over levels that are the same at each point
pub chain-levels : (x : ℕ → ℕ) (y y' : ℕ → ℤ) (f : ℕ → Bool) (s : ℕ → ℕ) (m q : ℕ) → IsChain x y f s q → ((j : ℕ) → j < q → s j < m) →
    ((k : ℕ) → k < m → y k ≡ y' k) → IsChain x y' f s q
chain-levels x y y' f s m q chain inside same = record {
  first = chain.first;
  rises = chain.rises;
  hides = λ j c below after before.
      let h = chain.hides j c below after before in
      let end = inside (j + 1) below in
      record { free = h.free; over = rw (same (s j) (omega arith), same c (omega arith), same (s (j + 1)) end) at h.over };
  bends = λ j below. elim (chain.bends j below) [
    | inl fixed ↦ inl fixed
    | inr under ↦ inr (rw (same (s j) (inside j (omega arith)), same (s (j + 1)) (inside (j + 1) (omega arith)), same (s (j + 2)) (inside (j + 2) below)) at under)
  ];
}

-- the samples of a whole chain are those of the nodes
pub hull-nodes : (signal : Signal) (points : List ℕ) (levels : List ℤ) (fixed : List Bool) (numbers : List ℕ) → levels ≡ map (λ p. sample_at signal p) points →
    IsRising (sample_of points) (length points) → IsChain (sample_of points) (level_of levels) (is_fixed fixed) (vertex numbers) (length numbers) →
    0 < length numbers → vertex numbers (length numbers - 1) + 1 ≡ length points → is_fixed fixed 0 ≡ true → is_fixed fixed (length points - 1) ≡ true →
    map (sample_of points) numbers ≡ node_samples signal points fixed
hull-nodes signal points levels fixed numbers read rising chain some end first last =
    let y' : ℕ → ℤ = λ i. sample_at signal (sample_of points i) in
    let same : (k : ℕ) → k < length points → level_of levels k ≡ y' k = λ k below.
    rw read (get_or-map (λ p. sample_at signal p) points k 0 (pos 0) below) in
    let inside = vertex-inside (sample_of points) (level_of levels) (is_fixed fixed) (vertex numbers) (length points) (length numbers) chain (λ any. end) in
    let over : IsChain (sample_of points) y' (is_fixed fixed) (vertex numbers) (length numbers) =
    chain-levels (sample_of points) (level_of levels) y' (is_fixed fixed) (vertex numbers) (length points) (length numbers) chain inside same in
    sym (ap (map (sample_of points)) (chain-nodes (sample_of points) y' (is_fixed fixed) (length points) numbers rising over some end first last))

-- each number of a whole chain is one of a point
pub chain-inside : (x : ℕ → ℕ) (y : ℕ → ℤ) (f : ℕ → Bool) (m : ℕ) (numbers : List ℕ) → IsChain x y f (vertex numbers) (length numbers) →
    (0 < length numbers → vertex numbers (length numbers - 1) + 1 ≡ m) → (k d : ℕ) → k < length numbers → get_or numbers k d < m
chain-inside x y f m numbers chain whole k d below =
    rw (get_or_default numbers k d 0 below) (vertex-inside x y f (vertex numbers) m (length numbers) chain whole k below)
