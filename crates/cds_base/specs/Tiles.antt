-- How the parts of a cluster lie.
use Rattle.std.specs.Prelude.{◌≡◌, ℕ, ◌<◌, List, [], ◌∷◌}
use Rattle.cds_base.specs.declared.cluster.Part.{Part}

-- parts tile a range: the first begins at its start, each next one where the one before ends, each ends behind its own
-- start, and the last ends at the end of the range
abbrev pub Tiles : ℕ → List Part → ℕ → Type 0
Tiles start [] end = start ≡ end
Tiles start (part ∷ parts) end = (part.start ≡ start) × (start < part.end) × Tiles part.end parts end
