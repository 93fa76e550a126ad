-- The nodes of a cluster in their order, and the line between two of them in a row.
use Rattle.std.proofs.Common.{◌≡◌, ℕ, zero, suc, ◌+◌, ◌<◌, ◌≤◌, inl, inr, Bool, true, false, List, [], ◌∷◌, ◌++◌, map}
use Rattle.std.proofs.Common.{length, refl, sym, ap, ◌∙◌, append_assoc, arith}
use Rattle.std.specs.Prelude.{nat_lt, nat_le, ◌==◌, if◌then◌else◌}
use Rattle.std.specs.List.{fold, list_any}
use Rattle.std.proofs.lemmas.Bool.{cases_Bool, cases_eq}
use Rattle.std.proofs.lemmas.Grind.{common_steps}
use Rattle.std.proofs.lemmas.List.{map-append}
use Rattle.cds_base.specs.declared.cluster.Part.{Part}
use Rattle.cds_base.specs.declared.cluster.Cluster.{Cluster}
use Rattle.cds_base.specs.Tiles.{Tiles}
use Rattle.cds_trace.specs.Signal.{Signal}
use Rattle.cds_baseline.specs.Numbers.{passing}
use Rattle.cds_baseline.specs.Nodes.{sample_of, is_node}
use Rattle.cds_baseline.specs.Cluster.{cluster_points, fixed_points, cluster_nodes}
use Rattle.cds_baseline.proofs.PointLaws.{cluster-ready}
use Rattle.cds_integrate.specs.Lines.{last_up_to, first_behind}
use Rattle.cds_integrate.proofs.PartLaws.{IsClear}
use Rattle.cds_integrate.proofs.NodeLaws.{Each, each-append, each-more, each-at, each-passing, points-clear}

-- each number of a list is below those behind it
abbrev pub Up : List ℕ → Type 0
Up [] = Unit {0}
Up (n ∷ ns) = Each (λ m. n < m) ns × Up ns

-- one greater number more
up-more : (xs : List ℕ) (n : ℕ) → Up xs → Each (λ m. m < n) xs → Up (xs ++ n ∷ [])
up-more [] n up below = (tt, tt)
up-more (x ∷ xs) n up below = (each-append (λ m. x < m) xs (n ∷ []) up.0 (below.0, tt), up-more xs n up.1 below.1)

-- what passes among rising numbers
up-passing : (f : ℕ → ℕ) (test : ℕ → Bool) (m : ℕ) → ((a b : ℕ) → a < b → b < m → f a < f b) →
    Up (map f (passing test m))
up-passing f test zero rising = tt
up-passing f test (suc m) rising =
    let rest = up-passing f test m (λ a b order below. rising a b order (omega arith)) in
    let below = each-passing (λ n. n < f m) f test m (λ i under. rising i m under (omega arith)) in
    elim (cases_Bool (test m)) [
      | inl is ↦ rw (is, map-append f (passing test m) (m ∷ [])) (up-more (map f (passing test m)) (f m) rest below)
      | inr other ↦ rw other rest
    ]

-- what holds of each number holds of one among them
pub each-mid : (P : ℕ → Type 0) (front : List ℕ) (a : ℕ) (back : List ℕ) → Each P (front ++ a ∷ back) → P a
each-mid P [] a back each = each.0
each-mid P (x ∷ xs) a back each = each-mid P xs a back each.1

-- numbers before one, and from it on
up-split : (front : List ℕ) (a : ℕ) (back : List ℕ) → Up (front ++ a ∷ back) → Each (λ x. x < a) front × Up (a ∷ back)
up-split [] a back up = (tt, up)
up-split (x ∷ xs) a back up =
    let rest = up-split xs a back up.1 in
    ((each-mid (λ m. x < m) xs a back up.0, rest.0), rest.1)

-- a number stands among those of which it is one
pub any-mid : (front : List ℕ) (a : ℕ) (back : List ℕ) → list_any (λ other. other == a) (front ++ a ∷ back) ≡ true
any-mid [] a back =
    let same : (a == a) ≡ true = grind (arith, common_steps) in
    rw same refl
any-mid (x ∷ xs) a back =
    let rest = any-mid xs a back in
    elim (cases_Bool (x == a)) [
      | inl is ↦ rw is refl
      | inr other ↦ rw other rest
    ]

-- numbers behind a sample don't count as the last up to it
last-keep : (back : List ℕ) (s found : ℕ) → Each (λ n. s < n) back →
    fold (λ found node. if nat_le node s then node else found) found back ≡ found
last-keep [] s found behind = refl
last-keep (n ∷ ns) s found behind =
    let no_more : nat_le n s ≡ false = let h : s < n = behind.0 in grind (arith, common_steps) in
    rw no_more (last-keep ns s found behind.1)

last-mid : (front : List ℕ) (a : ℕ) (back : List ℕ) (s found : ℕ) → a ≤ s → Each (λ n. s < n) back →
    fold (λ found node. if nat_le node s then node else found) found (front ++ a ∷ back) ≡ a
last-mid [] a back s found low behind =
    let is : nat_le a s ≡ true = grind (arith, common_steps) in
    let here : (if nat_le a s then a else found) ≡ a = rw is refl in
    ap (λ (n : ℕ). fold (λ found node. if nat_le node s then node else found) n back) here ∙ last-keep back s a behind
last-mid (x ∷ xs) a back s found low behind = last-mid xs a back s (if nat_le x s then x else found) low behind

first-mid : (front : List ℕ) (b : ℕ) (back : List ℕ) (s : ℕ) → Each (λ n. n ≤ s) front → s < b →
    first_behind (front ++ b ∷ back) s ≡ b
first-mid [] b back s low behind =
    let is : nat_lt s b ≡ true = grind (arith, common_steps) in
    rw is refl
first-mid (x ∷ xs) b back s low behind =
    let rest = first-mid xs b back s low.1 behind in
    let not_yet : nat_lt s x ≡ false = let h : x ≤ s = low.0 in grind (arith, common_steps) in
    rw not_yet rest

-- between two nodes in a row the one is the last node up to a sample and the other is the first behind it
pub between-nodes : (front : List ℕ) (a b : ℕ) (back : List ℕ) (s : ℕ) → Up (front ++ a ∷ b ∷ back) → a ≤ s → s < b →
    (last_up_to (front ++ a ∷ b ∷ back) s ≡ a) × (first_behind (front ++ a ∷ b ∷ back) s ≡ b)
between-nodes front a b back s up low high =
    let split = up-split front a (b ∷ back) up in
    let behind : Each (λ n. s < n) (b ∷ back) =
    (high, each-more (λ m. b < m) (λ n. s < n) back (λ n h. omega (arith, h, high)) split.1.1.0) in
    let before : Each (λ n. n ≤ s) (front ++ a ∷ []) =
    each-append (λ n. n ≤ s) front (a ∷ []) (each-more (λ x. x < a) (λ n. n ≤ s) front
    (λ n h. omega (arith, h, low)) split.0) (low, tt) in
    let e : front ++ a ∷ b ∷ back ≡ (front ++ a ∷ []) ++ b ∷ back = sym (append_assoc front (a ∷ []) (b ∷ back)) in (
      last-mid front a (b ∷ back) s 0 low behind,
      ap (λ nodes. first_behind nodes s) e ∙ first-mid
          (front ++ a ∷ []) b back s before high,
    )

-- two nodes in a row rise
pub nodes-rise : (front : List ℕ) (a b : ℕ) (back : List ℕ) → Up (front ++ a ∷ b ∷ back) → a < b
nodes-rise front a b back up = (up-split front a (b ∷ back) up).1.0.0

-- the nodes of a cluster rise, and lie in it and inside no part
pub record AreNodes (nodes : List ℕ) (parts : List Part) (start end : ℕ) : Type 0 where
  pub up : Up nodes
  pub places : Each (λ n. (start ≤ n) × (n ≤ end) × IsClear parts n) nodes

pub cluster-nodes : (signal : Signal) (cluster : Cluster) (covered : List Bool) → 0 < length cluster.parts →
    Tiles cluster.start cluster.parts cluster.end →
    length covered ≡ length cluster.parts →
    AreNodes (cluster_nodes signal cluster covered) cluster.parts cluster.start cluster.end
cluster-nodes signal cluster covered some tiled whole =
    let points : List ℕ = cluster_points cluster in
    let fixed : List Bool = fixed_points cluster covered in
    let test : ℕ → Bool = is_node signal points fixed in
    let f : ℕ → ℕ = sample_of points in
    let ready = cluster-ready cluster.start cluster.end cluster.forced cluster.parts covered
    (cluster.end + 1) some tiled (omega arith) whole in
    let all = points-clear cluster tiled in
    record {
      up = up-passing f test (length points) ready.rising;
      places = each-passing (λ n. (cluster.start ≤ n) × (n ≤ cluster.end) × IsClear cluster.parts n) f test
          (length points)
          (λ i below.
          let here = each-at (λ n. (n ≤ cluster.end) × IsClear cluster.parts n) points i 0 all below in (
            elim (cases_eq i 0) [
              | inl first ↦ rw first (omega arith)
              | inr later ↦ omega (arith, ready.rising 0 i (omega arith) below)
            ],
            here.0,
            here.1,
          ));
    }
