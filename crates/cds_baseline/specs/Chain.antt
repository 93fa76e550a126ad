-- The chain of vertices over which a baseline is stretched, as it is kept while points are added. Points are numbered:
-- x is the sample of a point, y its level, f whether it is fixed; s is the point of a vertex.
use Rattle.std.specs.Prelude.{◌≡◌, ℕ, ◌+◌, ◌-◌, ◌<◌, ℤ, pos, Bool, true, false, not, ◌&&◌, ◌⊎◌, List, length, get_or, nat_le}
use Rattle.cds_base.specs.declared.peak.Line.{Line}
use Rattle.cds_baseline.specs.Chord.{is_below}
use Rattle.cds_baseline.specs.Nodes.{sample_of, is_fixed}

-- the level of point i
abbrev pub level_of : List ℤ → ℕ → ℤ
level_of levels i = get_or levels i (pos 0)

-- the point of vertex j
abbrev pub vertex : List ℕ → ℕ → ℕ
vertex chain j = get_or chain j 0

-- the chord from point a to point b
abbrev pub chord_of : (ℕ → ℕ) → (ℕ → ℤ) → ℕ → ℕ → Line
chord_of x y a b = record { from = x a; from_y = y a; to = x b; to_y = y b }

-- whether the chord from point a to point b passes above point i
abbrev pub under_of : (ℕ → ℕ) → (ℕ → ℤ) → ℕ → ℕ → ℕ → Bool
under_of x y a i b = is_below (chord_of x y a b) (x i) (y i)

-- samples rise from point to point, up to the m-th
abbrev pub IsRising : (ℕ → ℕ) → ℕ → Type 0
IsRising x m = (a b : ℕ) → a < b → b < m → x a < x b

-- points as a cluster has them: a level and a mark for each, their samples rising
pub record IsPoints (points : List ℕ) (levels : List ℤ) (fixed : List Bool) : Type 0 where
  pub levels_whole : length levels ≡ length points
  pub fixed_whole : length fixed ≡ length points
  pub rising : IsRising (sample_of points) (length points)

-- a point that a chord leaves out: it isn't fixed, and the chord doesn't pass above it
pub record IsHidden (x : ℕ → ℕ) (y : ℕ → ℤ) (f : ℕ → Bool) (a c b : ℕ) : Type 0 where
  pub free : f c ≡ false
  pub over : under_of x y a c b ≡ false

-- a chain of q vertices s 0, s 1 ..: each chord of it leaves out the points between, and it bends at each free vertex
pub record IsChain (x : ℕ → ℕ) (y : ℕ → ℤ) (f : ℕ → Bool) (s : ℕ → ℕ) (q : ℕ) : Type 0 where
  pub first : 0 < q → s 0 ≡ 0
  pub rises : (j : ℕ) → j + 1 < q → s j < s (j + 1)
  pub hides : (j c : ℕ) → j + 1 < q → s j < c → c < s (j + 1) → IsHidden x y f (s j) c (s (j + 1))
  pub bends : (j : ℕ) → j + 2 < q → (f (s (j + 1)) ≡ true) ⊎ (under_of x y (s j) (s (j + 1)) (s (j + 2)) ≡ true)

-- the points from the last of q vertices to a new one are left out by the chord between the two
pub record IsReached (x : ℕ → ℕ) (y : ℕ → ℤ) (f : ℕ → Bool) (s : ℕ → ℕ) (q next : ℕ) : Type 0 where
  pub below : (j : ℕ) → j < q → s j < next
  pub hides : (c : ℕ) → 0 < q → s (q - 1) < c → c < next → IsHidden x y f (s (q - 1)) c next

-- whether the last of q vertices is left out by the chord from the one before it to a new point
abbrev pub is_top_hidden : (ℕ → ℕ) → (ℕ → ℤ) → (ℕ → Bool) → (ℕ → ℕ) → ℕ → ℕ → Bool
is_top_hidden x y f s q next = nat_le 2 q && (not (f (s (q - 1))) && not (under_of x y (s (q - 2)) (s (q - 1)) next))

-- the same of points with their levels and marks, and of vertices as a list of numbers of points
abbrev pub ChainOf : List ℕ → List ℤ → List Bool → List ℕ → ℕ → Type 0
ChainOf points levels fixed chain count = IsChain (sample_of points) (level_of levels) (is_fixed fixed)
    (vertex chain) count

abbrev pub ReachedFrom : List ℕ → List ℤ → List Bool → List ℕ → ℕ → ℕ → Type 0
ReachedFrom points levels fixed chain count next = IsReached (sample_of points) (level_of levels) (is_fixed fixed)
    (vertex chain) count next

abbrev pub hides_top : List ℕ → List ℤ → List Bool → List ℕ → ℕ → ℕ → Bool
hides_top points levels fixed chain count next = is_top_hidden (sample_of points) (level_of levels) (is_fixed fixed)
    (vertex chain) count next
