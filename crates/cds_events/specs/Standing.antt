-- How parts and clusters stand in a trace.
use Rattle.std.specs.Prelude.{◌≡◌, ℕ, ◌<◌, ◌≤◌, List, [], ◌∷◌, All, length}
use Rattle.std.specs.List.{sum_by}
use Rattle.cds_base.specs.declared.cluster.Cut.TheVariants.{Start}
use Rattle.cds_base.specs.declared.cluster.Part.{Part}
use Rattle.cds_base.specs.declared.cluster.Cluster.{Cluster}
use Rattle.cds_trace.specs.Signal.{Signal}
use Rattle.cds_trace.specs.Standing.{IsCrest}
use Rattle.cds_base.specs.Tiles.{Tiles}

-- a part whose apex lies in its range, and is a crest where it lies strictly inside
pub record IsPart (signal : Signal) (part : Part) : Type 0 where
  pub low : part.start ≤ part.apex
  pub high : part.apex ≤ part.end
  pub crest : part.start < part.apex → part.apex < part.end → IsCrest signal part.apex

-- the left end of the first part, if there is one, is the start of the cluster
abbrev pub BeginsAtStart : List Part → Type 0
BeginsAtStart [] = Unit {0}
BeginsAtStart (part ∷ parts) = part.left ≡ Start

-- a cluster that begins at this sample or behind it
pub record IsCluster (signal : Signal) (at : ℕ) (cluster : Cluster) : Type 0 where
  pub follows : at ≤ cluster.start
  -- it has parts, which tile it
  pub some : 0 < length cluster.parts
  pub tiled : Tiles cluster.start cluster.parts cluster.end
  pub parts : All (IsPart signal) cluster.parts
  pub begins : BeginsAtStart cluster.parts
  -- it ends within the trace
  pub ends : cluster.end < length signal.samples

-- clusters one after the other from this sample on; the end of one may be the start of the next
abbrev pub ClustersFrom : Signal → ℕ → List Cluster → Type 0
ClustersFrom signal at [] = Unit {0}
ClustersFrom signal at (cluster ∷ clusters) = IsCluster signal at cluster × ClustersFrom signal cluster.end clusters

-- how many parts clusters have together
abbrev pub part_count : List Cluster → ℕ
part_count clusters = sum_by (λ cluster. length cluster.parts) clusters
