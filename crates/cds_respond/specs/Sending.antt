-- What a sink holds where a text was sent to it.
use Rattle.std.specs.Prelude.{◌≡◌, ◌⊎◌, ℕ, ◌<◌, List, length, take, Option}
use Rattle.cds_base.specs.Faults.{Rose}
use Rattle.cds_base.specs.Told.{then_more}

-- the sink holds a front of the text behind what it held, and not all of it
abbrev pub HoldsPart : Option (List ℕ) → Option (List ℕ) → List ℕ → Type 0
HoldsPart before now text = (k : ℕ) × (k < length text) × (now ≡ then_more before (take k text))

-- the text stands whole behind what the sink held and no write failed, or the sink failed and a front of it stands there
abbrev pub Sent : Option (List ℕ) → Option (List ℕ) → ℕ → ℕ → List ℕ → Type 0
Sent before now faults_before faults_now text =
    ((now ≡ then_more before text) × (faults_now ≡ faults_before)) ⊎ (HoldsPart before now text × Rose faults_before faults_now)
