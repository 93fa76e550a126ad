-- Where the nodes of a cluster lie: inside none of its parts. And the lines between them.
use Rattle.std.proofs.Common.{◌≡◌, ℕ, zero, suc, ◌+◌, ◌-◌, ◌<◌, ◌≤◌, inl, inr, Bool, true, false, ◌||◌, List, [], ◌∷◌}
use Rattle.std.proofs.Common.{◌++◌, map, length, get_or, refl, sym, ap, subst, ◌∙◌, arith}
use Rattle.std.specs.Prelude.{nat_lt, nat_le, ◌==◌, if◌then◌else◌}
use Rattle.std.specs.List.{fold, list_any}
use Rattle.std.proofs.lemmas.Bool.{cases_Bool}
use Rattle.std.proofs.lemmas.Grind.{common_steps}
use Rattle.std.proofs.lemmas.List.{map-append}
use Rattle.cds_base.specs.declared.cluster.Part.{Part}
use Rattle.cds_base.specs.declared.cluster.Cluster.{Cluster}
use Rattle.cds_base.specs.Tiles.{Tiles}
use Rattle.cds_trace.specs.Signal.{Signal}
use Rattle.cds_baseline.specs.Numbers.{passing}
use Rattle.cds_baseline.specs.Nodes.{sample_of, is_node}
use Rattle.cds_baseline.specs.Cluster.{is_valley, valleys, inner, cluster_points, fixed_points, cluster_nodes}
use Rattle.cds_baseline.proofs.PointLaws.{cluster-ready, last-is}
use Rattle.cds_integrate.specs.Lines.{first_behind}
use Rattle.cds_integrate.proofs.PartLaws.{IsClear, tiles-order, clear-low, clear-high}

-- P holds of each number of a list
abbrev pub Each : (ℕ → Type 0) → List ℕ → Type 0
Each P [] = Unit {0}
Each P (n ∷ ns) = P n × Each P ns

pub each-any : (ns : List ℕ) → Each (λ n. Unit {0}) ns
each-any [] = tt
each-any (n ∷ ns) = (tt, each-any ns)

pub each-append : (P : ℕ → Type 0) (xs ys : List ℕ) → Each P xs → Each P ys → Each P (xs ++ ys)
each-append P [] ys a b = b
each-append P (x ∷ xs) ys a b = (a.0, each-append P xs ys a.1 b)

pub each-more : (P Q : ℕ → Type 0) (xs : List ℕ) → ((n : ℕ) → P n → Q n) → Each P xs → Each Q xs
each-more P Q [] f a = tt
each-more P Q (x ∷ xs) f a = (f x a.0, each-more P Q xs f a.1)

pub each-at : (P : ℕ → Type 0) (xs : List ℕ) (i d : ℕ) → Each P xs → i < length xs → P (get_or xs i d)
each-at P [] i d a below = absurd (omega arith)
each-at P (x ∷ xs) zero d a below = a.0
each-at P (x ∷ xs) (suc i) d a below = each-at P xs i d a.1 (omega arith)

-- what passes among points
pub each-passing : (P : ℕ → Type 0) (f : ℕ → ℕ) (test : ℕ → Bool) (m : ℕ) → ((i : ℕ) → i < m → P (f i)) →
    Each P (map f (passing test m))
each-passing P f test zero each = tt
each-passing P f test (suc m) each =
    let rest = each-passing P f test m (λ i below. each i (omega arith)) in
    elim (cases_Bool (test m)) [
      | inl is ↦ rw (is, map-append f (passing test m) (m ∷ []))
          (each-append P (map f (passing test m)) (f m ∷ []) rest (each m (omega arith), tt))
      | inr other ↦ rw other rest
    ]

-- the last point stands last, where it passes
pub last-passing : (f : ℕ → ℕ) (test : ℕ → Bool) (m : ℕ) → test m ≡ true →
    map f (passing test (suc m)) ≡ map f (passing test m) ++ f m ∷ []
last-passing f test m is = rw is (map-append f (passing test m) (m ∷ []))

-- the last of some samples up to one isn't behind it
pub last_up_to-low : (nodes : List ℕ) (at found : ℕ) → found ≤ at →
    fold (λ found node. if nat_le node at then node else found) found nodes ≤ at
last_up_to-low [] at found low = low
last_up_to-low (n ∷ ns) at found low =
    last_up_to-low ns at (if nat_le n at then n else found)
    (elim (cases_Bool (nat_le n at)) [
      | inl is ↦ rw is (grind (arith, common_steps))
      | inr other ↦ rw other low
    ])

or_from : (a b : Bool) → b ≡ true → (a || b) ≡ true
or_from true b h = refl
or_from false b h = h

-- the first sample behind one is one of them, and lies behind it
pub first-good : (P : ℕ → Type 0) (front : List ℕ) (last at : ℕ) → Each P front → P last → at < last →
    P (first_behind (front ++ last ∷ []) at) × (at < first_behind (front ++ last ∷ []) at) ×
    (list_any (λ node. node == first_behind (front ++ last ∷ []) at) (front ++ last ∷ []) ≡ true)
first-good P [] last at each p behind =
    let is : nat_lt at last ≡ true = grind (arith, common_steps) in
    let same : (last == last) ≡ true = grind (arith, common_steps) in
    rw is (p, behind, rw same refl)
first-good P (n ∷ ns) last at each p behind =
    elim (cases_Bool (nat_lt at n)) [
      | inl is ↦
          let same : (n == n) ≡ true = grind (arith, common_steps) in
          rw is (each.0, grind (arith, common_steps), rw same refl)
      | inr other ↦
          let rest = first-good P ns last at each.1 p behind in
          let on : first_behind (n ∷ ns ++ last ∷ []) at ≡ first_behind (ns ++ last ∷ []) at = rw other refl in
          let tail : List ℕ = ns ++ last ∷ [] in
          subst (λ x. P x × (at < x) × (list_any (λ node. node == x) (n ∷ tail) ≡ true)) (sym on) (
            rest.0,
            rest.1,
            or_from (n == first_behind tail at)
                (list_any (λ node. node == first_behind tail at) tail) rest.2,
          )
    ]

-- valleys lie in order, and inside no part
pub valleys-clear : (start end : ℕ) (parts : List Part) → Tiles start parts end →
    Each (λ n. (start ≤ n) × (n ≤ end) × IsClear parts n) (valleys parts)
valleys-clear start end [] tiled = tt
valleys-clear start end (part ∷ parts) tiled =
    let rest = valleys-clear part.end end parts tiled.2 in
    let order = tiles-order part.end end parts tiled.2 in
    let more = each-more (λ n. (part.end ≤ n) × (n ≤ end) × IsClear parts n)
    (λ n. (start ≤ n) × (n ≤ end) × IsClear (part ∷ parts) n) (valleys parts)
    (λ n h. (omega (arith, h.0, tiled.1), h.1, (inr h.0, h.2))) rest in
    elim (cases_Bool (is_valley part.left)) [
      | inl is ↦ rw is (
        (
          omega (arith, tiled.0),
          omega (arith, tiled.0, tiled.1, order),
          (inl (omega arith), clear-low part.end end part.start parts tiled.2 (omega (arith, tiled.0, tiled.1))),
        ),
        more,
      )
      | inr other ↦ rw other more
    ]

-- the same of the valleys that are points
pub inner-clear : (start end : ℕ) (forced : Bool) (parts : List Part) → Tiles start parts end →
    Each (λ n. (n ≤ end) × IsClear parts n) (valleys (inner forced parts))
inner-clear start end true parts tiled = tt
inner-clear start end false [] tiled = tt
inner-clear start end false (part ∷ parts) tiled =
    each-more (λ n. (part.end ≤ n) × (n ≤ end) × IsClear parts n) (λ n. (n ≤ end) × IsClear (part ∷ parts) n)
    (valleys parts)
    (λ n h. (h.1, (inr h.0, h.2))) (valleys-clear part.end end parts tiled.2)

-- the points of a cluster lie inside none of its parts
pub points-clear : (cluster : Cluster) → Tiles cluster.start cluster.parts cluster.end →
    Each (λ n. (n ≤ cluster.end) × IsClear cluster.parts n) (cluster_points cluster)
points-clear cluster tiled = (
  (
    tiles-order cluster.start cluster.end cluster.parts tiled,
    clear-low cluster.start cluster.end cluster.start cluster.parts tiled (omega arith),
  ),
  each-append (λ n. (n ≤ cluster.end) × IsClear cluster.parts n) (valleys (inner cluster.forced cluster.parts))
      (cluster.end ∷ [])
      (inner-clear cluster.start cluster.end cluster.forced cluster.parts tiled)
      ((omega arith, clear-high cluster.start cluster.end cluster.end cluster.parts tiled (omega arith)), tt),
)

-- the node behind a sample of a cluster is one of the nodes, lies behind it and within the cluster, and inside no part
pub record IsNextNode (nodes : List ℕ) (parts : List Part) (end at node : ℕ) : Type 0 where
  pub behind : at < node
  pub within : node ≤ end
  pub clear : IsClear parts node
  pub among : list_any (λ other. other == node) nodes ≡ true

pub next-node : (signal : Signal) (cluster : Cluster) (covered : List Bool) (at : ℕ) → 0 < length cluster.parts →
    Tiles cluster.start cluster.parts cluster.end →
    length covered ≡ length cluster.parts → at < cluster.end →
    IsNextNode (cluster_nodes signal cluster covered) cluster.parts cluster.end at
    (first_behind (cluster_nodes signal cluster covered) at)
next-node signal cluster covered at some tiled whole before =
    let points : List ℕ = cluster_points cluster in
    let fixed : List Bool = fixed_points cluster covered in
    let test : ℕ → Bool = is_node signal points fixed in
    let f : ℕ → ℕ = sample_of points in
    let P : ℕ → Type 0 = λ n. (n ≤ cluster.end) × IsClear cluster.parts n in
    let ready = cluster-ready cluster.start cluster.end cluster.forced cluster.parts covered
    (cluster.end + 1) some tiled (omega arith) whole in
    let m : ℕ = length points - 1 in
    let count : length points ≡ suc m = omega arith in
    let last : f m ≡ cluster.end =
    last-is (cluster.start ∷ valleys (inner cluster.forced cluster.parts)) cluster.end 0 in
    let is : test m ≡ true = rw ready.last refl in
    let all = points-clear cluster tiled in
    let nodes : cluster_nodes signal cluster covered ≡ map f (passing test m) ++ f m ∷ [] =
    ap (λ n. map f (passing test n)) count ∙ last-passing f test m is in
    let front = each-passing P f test m (λ i below. each-at P points i 0 all (omega (arith, count))) in
    let good = first-good P (map f (passing test m)) (f m) at front (each-at P points m 0 all (omega (arith, count)))
    (omega (arith, last, before)) in
    rw nodes (record { behind = good.1; within = good.0.0; clear = good.0.1; among = good.2 })
