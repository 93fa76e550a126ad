-- A stream that comes in pieces, as its owner sees it.
use Rattle.std.specs.Prelude.{◌≡◌, ℕ, ◌+◌, ◌-◌, ◌≤◌, Bool, true, false, ◌||◌, ◌&&◌, not, nat_le, if◌then◌else◌, List, [], ◌∷◌, ◌++◌, length, drop, slice_range, IsUtf8, Option, None, Some, option_map, ⊤}
use Rattle.httparse.specs.Grammar.{RequestHead, print_blank}
use Rattle.cds_http.specs.declared.limits.TheConstants.{MESSAGE_ROOM}
use Rattle.cds_http.specs.declared.next.Fault.{Fault}
use Rattle.cds_http.specs.declared.next.Next.{Next}
use Rattle.cds_http.specs.declared.next.Next.TheVariants as next
use Rattle.cds_http.specs.declared.next.Request.{Request}
use Rattle.cds_http.specs.Fields.{fields_of, expects_continue, closes}
use Rattle.cds_http.specs.Front.{Front, waits, fails, heads, IsFront}
use Rattle.cds_http.specs.Items.{Message, Item, continue, request, fault, FirstItem, AreItems, AreAfter}

-- what is held of a stream, and what was answered of it
pub record Stream : Type 0 where
  -- the bytes that were fed and not dropped
  pub bytes : List ℕ
  -- how many bytes of the stream stood before them
  pub place : ℕ
  -- the `Continue` of the message at the front was answered
  pub continued : Bool
  -- what was answered last; None where bytes were fed or a message was dropped since. A fault stays.
  pub last : Option Next
  -- a request that closes the connection was dropped
  pub closed : Bool

-- a stream of which nothing has come
abbrev pub new_stream : Stream
new_stream = record { bytes = []; place = 0; continued = false; last = None; closed = false }

-- how many bytes may be fed now
abbrev pub room_of : Stream → ℕ
room_of s = MESSAGE_ROOM - length s.bytes

-- the fault that was answered, if the answer is one
abbrev pub fault_in : Option Next → Option Fault
fault_in None = None
fault_in (Some next.More) = None
fault_in (Some next.Continue) = None
fault_in (Some (next.Request r)) = None
fault_in (Some (next.Fault f)) = Some f

-- the request that was answered, if the answer is one
abbrev pub request_in : Option Next → Option Request
request_in None = None
request_in (Some next.More) = None
request_in (Some next.Continue) = None
request_in (Some (next.Request r)) = Some r
request_in (Some (next.Fault f)) = None

-- what stays of the last answer when bytes are fed: a fault
abbrev pub kept_answer : Option Next → Option Next
kept_answer last = option_map next.Fault (fault_in last)

-- the stream with further bytes
abbrev pub fed : Stream → List ℕ → Stream
fed s piece = record s { bytes = s.bytes ++ piece; last = kept_answer s.last }

-- the ranges of a request whose head has so many bytes
abbrev pub request_of : ℕ → RequestHead → ℕ → Request
request_of size h body =
    let before = length (print_blank h.blank) in
    let target = before + length h.method + 1 in
    record {
      method = record { start = before; end = before + length h.method };
      path = record { start = target; end = target + length h.target };
      body = record { start = size; end = size + body };
      version = h.minor;
      close = closes h.minor (fields_of h);
    }

-- what a front has next, where so many bytes are held: its `Continue` once, and a request when it is whole
abbrev pub next_of : ℕ → Bool → Front → Next
next_of held continued waits = next.More
next_of held continued (fails f) = next.Fault f
next_of held continued (heads size h body) =
    if expects_continue h.minor (fields_of h) body && not continued then next.Continue
    else (if nat_le (size + body) held then next.Request (request_of size h body) else next.More)

-- the answer that the bytes held decide
pub record Decides (s : Stream) (answer : Next) : Type 0 where
  -- what stands at the front of them
  pub front : Front
  pub is_front : IsFront s.place s.bytes front
  pub answer_is : answer ≡ next_of (length s.bytes) s.continued front

-- the answer asks the sender to go on
abbrev pub is_continue : Next → Bool
is_continue next.More = false
is_continue next.Continue = true
is_continue (next.Request r) = false
is_continue (next.Fault f) = false

-- the stream after an answer
abbrev pub answered : Stream → Next → Stream
answered s answer = record s { continued = s.continued || is_continue answer; last = Some answer }

-- the stream after its first message was dropped, which is this request
abbrev pub dropped : Stream → Request → Stream
dropped s r = record {
  bytes = drop r.body.end s.bytes;
  place = s.place + r.body.end;
  continued = false;
  last = None;
  closed = r.close;
}

-- the message that is this request of the bytes
abbrev pub message_of : List ℕ → Request → Message
message_of bytes r = record {
  method = slice_range bytes r.method.start r.method.end;
  target = slice_range bytes r.path.start r.path.end;
  body = slice_range bytes r.body.start r.body.end;
  version = r.version;
  close = r.close;
  size = r.body.end;
}

-- the item that an answer is, if it is one
abbrev pub item_in : List ℕ → Next → Option Item
item_in bytes next.More = None
item_in bytes next.Continue = Some continue
item_in bytes (next.Request r) = Some (request (message_of bytes r))
item_in bytes (next.Fault f) = Some (fault f)

-- the ranges of a request lie within the bytes, and its target is text
pub record IsRequestIn (bytes : List ℕ) (r : Request) : Type 0 where
  pub method_ordered : r.method.start ≤ r.method.end
  pub method_in_range : r.method.end ≤ length bytes
  pub path_ordered : r.path.start ≤ r.path.end
  pub path_in_range : r.path.end ≤ length bytes
  pub path_text : IsUtf8 (slice_range bytes r.path.start r.path.end)
  pub body_ordered : r.body.start ≤ r.body.end
  pub body_in_range : r.body.end ≤ length bytes
  pub version : r.version ≤ 1

-- this holds of the request, if the answer is one
abbrev pub IfRequest : Next → (Request → Type 0) → Type 0
IfRequest next.More P = ⊤
IfRequest next.Continue P = ⊤
IfRequest (next.Request r) P = P r
IfRequest (next.Fault f) P = ⊤

-- the answer is the first item of the bytes held, or `More` where none is decided but an answered `Continue`
abbrev pub TellsItem : Stream → Next → Type 0
TellsItem s answer = FirstItem s.place s.bytes s.continued false (item_in s.bytes answer)

-- ---- how the answers add up to the items of the whole stream

-- the items of what the stream has from here on, where these bytes come yet, and after them its end or more
abbrev pub ItemsFrom : Stream → List ℕ → Bool → List Item → Type 0
ItemsFrom s more ended items = AreItems s.place (s.bytes ++ more) s.continued ended items

-- further bytes that are fed are the first of those to come
abbrev pub AddsPiece : Stream → List ℕ → Stream → Type 0
AddsPiece s piece t = (more : List ℕ) (ended : Bool) (items : List Item) → ItemsFrom t more ended items
    → ItemsFrom s (piece ++ more) ended items

-- What an answer adds to the items: nothing by `More`, and nothing by a request, which is added when it is dropped.
-- The items of the stream before the answer are what it adds and then the items of the stream after it, whatever
-- comes yet.
abbrev pub AddsAnswer : Stream → Next → Stream → Type 0
AddsAnswer s next.More t = (more : List ℕ) (ended : Bool) (items : List Item) → ItemsFrom t more ended items
    → ItemsFrom s more ended items
AddsAnswer s next.Continue t =
    (more : List ℕ) (ended : Bool) (items : List Item) → ItemsFrom t more ended items
    → ItemsFrom s more ended (continue ∷ items)
AddsAnswer s (next.Request r) t = (more : List ℕ) (ended : Bool) (items : List Item) → ItemsFrom t more ended items
    → ItemsFrom s more ended items
AddsAnswer s (next.Fault f) t = (more : List ℕ) (ended : Bool) → ItemsFrom s more ended (fault f ∷ [])

-- a request that is dropped is the next item, and where it closes the connection it is the last
abbrev pub AddsRequest : Stream → Request → Stream → Type 0
AddsRequest s r t =
    (more : List ℕ) (ended : Bool) (items : List Item) → AreAfter r.close items (ItemsFrom t more ended items)
    → ItemsFrom s more ended (request (message_of s.bytes r) ∷ items)

-- the fault at the end of the input, if there is one, as the items that are left
abbrev pub last_items : Option Fault → List Item
last_items None = []
last_items (Some f) = fault f ∷ []

-- the stream after its end was judged
abbrev pub judged_end : Stream → Option Fault → Stream
judged_end s None = s
judged_end s (Some f) = record s { last = Some (next.Fault f) }

-- more of the stream has to come, and as much of it came as before
pub record IsOpenAfter (s t : Stream) : Type 0 where
  pub closed : t.closed ≡ false
  pub asked : t.last ≡ Some next.More
  pub total : t.place + length t.bytes ≡ s.place + length s.bytes
