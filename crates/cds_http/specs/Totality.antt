-- How a stream is read for its items, message by message.
use Rattle.std.specs.Prelude.{ℕ, ◌+◌, ◌<◌, ◌≤◌, Bool, false, nat_le, if◌then◌else◌, List, length, drop, Option, None, Some}
use Rattle.cds_http.specs.declared.known.Known.{Known}
use Rattle.cds_http.specs.declared.known.Known.TheVariants.{Lines, Head, Fault}
use Rattle.cds_http.specs.Items.{Item, AreItems}

-- some list is that of the items of the bytes, which begin at the place
abbrev pub HaveItems : ℕ → List ℕ → Bool → Type 0
HaveItems place bytes ended = (items : List Item) × AreItems place bytes false ended items

-- where so many bytes are held: how many of them a whole message at the front takes that leaves the connection open
abbrev pub passes : Known → ℕ → Option ℕ
passes (Lines scan) held = None
passes (Fault f) held = None
passes (Head head) held =
    if head.request.close then None
    else (if nat_le head.request.body.end held then Some head.request.body.end else None)

-- behind such a message the bytes go on, and have items where what follows has; without one they have items
abbrev pub GoesOn : ℕ → List ℕ → Option ℕ → Type 0
GoesOn place bytes None = (ended : Bool) → HaveItems place bytes ended
GoesOn place bytes (Some size) =
    (0 < size) × (size ≤ length bytes)
    × ((ended : Bool) → HaveItems (place + size) (drop size bytes) ended → HaveItems place bytes ended)
