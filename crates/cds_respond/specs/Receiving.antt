-- What was received of a source.
use Rattle.std.specs.Prelude.{◌≡◌, ◌⊎◌, ℕ, ◌<◌, List, length}
use Rattle.cds_respond.specs.declared.receiving.TheConstants.{MOST_SOURCE_BYTES}

-- all bytes of the source were received, or more than a command may read
abbrev pub AreReceived : List ℕ → List ℕ → Type 0
AreReceived all received = (received ≡ all) ⊎ ((MOST_SOURCE_BYTES < length received) × (MOST_SOURCE_BYTES < length all))
