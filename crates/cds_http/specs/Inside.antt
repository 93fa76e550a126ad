-- What `Messages` keeps true of its fields.
use Rattle.std.specs.Prelude.{◌≡◌, ℕ, ◌+◌, ◌-◌, ◌^◌, ◌<◌, ◌≤◌, Bool, false, List, length, drop, Option, None, Some, vec_len, ⊤}
use Rattle.std.specs.Vec.{vec_capacity}
use Rattle.cds_http.specs.declared.limits.TheConstants.{MESSAGE_ROOM}
use Rattle.cds_http.specs.declared.known.Known.{Known}
use Rattle.cds_http.specs.declared.next.Next.{Next}
use Rattle.cds_http.specs.declared.next.Next.TheVariants as next
use Rattle.cds_http.specs.declared.messages.Messages.TheInside.{Inside}
use Rattle.cds_http.specs.Items.{FirstItem, request}
use Rattle.cds_http.specs.Stream.{Stream, message_of}
use Rattle.cds_http.specs.Known.{Knows, KnowsAll}

-- the bytes from `start` on are those held
abbrev pub bytes_held : Inside → List ℕ
bytes_held i = drop i.start i.held.items

-- what callers see
abbrev pub stream_of : Inside → Stream
stream_of i = record { bytes = bytes_held i; place = i.place; continued = i.continued; last = i.last; closed = i.closed }

-- what the last answer says of the bytes held: after `More` no item is decided, and a request is the next item
abbrev pub WasTold : ℕ → List ℕ → Bool → Known → Option Next → Type 0
WasTold place bytes continued known None = ⊤
WasTold place bytes continued known (Some next.More) = KnowsAll place bytes known
    × FirstItem place bytes continued false None
WasTold place bytes continued known (Some next.Continue) = ⊤
WasTold place bytes continued known (Some (next.Request r)) =
    (r.body.end ≤ length bytes) × FirstItem place bytes continued false (Some (request (message_of bytes r)))
WasTold place bytes continued known (Some (next.Fault f)) = ⊤

pub record Holds (i : Inside) : Type 0 where
  pub start : i.start ≤ vec_len i.held
  pub length : length i.held.items ≡ vec_len i.held
  pub total : vec_len i.held ≤ MESSAGE_ROOM
  pub capacity : MESSAGE_ROOM ≤ vec_capacity i.held
  pub counted : i.place + (vec_len i.held - i.start) < 2 ^ 64
  pub known : Knows i.place (bytes_held i) i.known
  pub told : WasTold i.place (bytes_held i) i.continued i.known i.last
