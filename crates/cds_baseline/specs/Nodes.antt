-- The nodes of a baseline: among the points of a cluster, which are its ends and its valleys, those at which the line
-- bends or is fixed.
use Rattle.std.specs.Prelude.{ℕ, Bool, false, ◌&&◌, ◌||◌, not, List, map, length, get_or, nat_lt}
use Rattle.cds_trace.specs.Signal.{Signal}
use Rattle.cds_baseline.specs.Numbers.{each_below, passing}
use Rattle.cds_baseline.specs.Chord.{is_under}

-- the sample of point i
abbrev pub sample_of : List ℕ → ℕ → ℕ
sample_of points i = get_or points i 0

-- whether point i is fixed
abbrev pub is_fixed : List Bool → ℕ → Bool
is_fixed fixed i = get_or fixed i false

-- whether points a and b stand in one stretch: no point between them is fixed
abbrev pub is_stretch : List Bool → ℕ → ℕ → Bool
is_stretch fixed a b = each_below (λ k. not (nat_lt a k && is_fixed fixed k)) b

-- whether the chord from point a to point b passes above point i, where it is one over i in its stretch
abbrev pub passes_above : Signal → List ℕ → List Bool → ℕ → ℕ → ℕ → Bool
passes_above signal points fixed i a b =
    not (nat_lt i b && is_stretch fixed a b)
    || is_under signal (sample_of points a) (sample_of points b) (sample_of points i)

-- whether point i is a node: it is fixed, or every chord between two other points of its stretch passes above it
abbrev pub is_node : Signal → List ℕ → List Bool → ℕ → Bool
is_node signal points fixed i =
    is_fixed fixed i || each_below (λ a. each_below (λ b. passes_above signal points fixed i a b) (length points)) i

-- the samples of the nodes, in their order
abbrev pub node_samples : Signal → List ℕ → List Bool → List ℕ
node_samples signal points fixed = map (sample_of points) (passing (is_node signal points fixed) (length points))
