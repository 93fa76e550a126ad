-- The points of a cluster, between which its baseline is stretched.
use Rattle.std.specs.Prelude.{ℕ, Bool, true, false, List, [], ◌∷◌, ◌++◌, drop, if◌then◌else◌}
use Rattle.cds_base.specs.declared.cluster.Cut.{Cut}
use Rattle.cds_base.specs.declared.cluster.Cut.TheVariants.{Start, Valley, Drop}
use Rattle.cds_base.specs.declared.cluster.Part.{Part}
use Rattle.cds_base.specs.declared.cluster.Cluster.{Cluster}
use Rattle.cds_trace.specs.Signal.{Signal}
use Rattle.cds_baseline.specs.Nodes.{node_samples}

-- whether the left end of a part is a valley
abbrev pub is_valley : Cut → Bool
is_valley Start = false
is_valley Valley = true
is_valley Drop = false

-- the valleys at which these parts begin
abbrev pub valleys : List Part → List ℕ
valleys [] = []
valleys (part ∷ parts) = if is_valley part.left then part.start ∷ valleys parts else valleys parts

-- of one entry for each part, those of the parts that begin at a valley
abbrev pub marks : List Part → List Bool → List Bool
marks [] entries = []
marks (part ∷ parts) [] = []
marks (part ∷ parts) (entry ∷ entries) =
    if is_valley part.left then entry ∷ marks parts entries else marks parts entries

-- what stands behind the first entry; nothing on a forced baseline
abbrev pub inner : {X : Type 0} → Bool → List X → List X
inner forced entries = if forced then [] else drop 1 entries

-- the points of a cluster: its ends, and, where its baseline isn't forced, the valleys between
abbrev pub cluster_points : Cluster → List ℕ
cluster_points cluster = cluster.start ∷ valleys (inner cluster.forced cluster.parts) ++ cluster.end ∷ []

-- which of the points are fixed: the ends, and the valleys that are covered by a valley event
abbrev pub fixed_points : Cluster → List Bool → List Bool
fixed_points cluster covered =
    true ∷ marks (inner cluster.forced cluster.parts) (inner cluster.forced covered) ++ true ∷ []

-- the nodes of the baseline of a cluster
abbrev pub cluster_nodes : Signal → Cluster → List Bool → List ℕ
cluster_nodes signal cluster covered = node_samples signal (cluster_points cluster) (fixed_points cluster covered)
