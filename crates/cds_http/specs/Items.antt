-- The items of a stream (RFC 9112). They are fixed by its bytes and by whether it has ended, and by nothing else.
use Rattle.std.specs.Prelude.{◌≡◌, ℕ, ◌+◌, Bool, true, false, ◌&&◌, not, ◌==◌, nat_le, if◌then◌else◌, List, [], ◌∷◌, length, take, drop, Option, None, Some}
use Rattle.std.specs.List.{list_all}
use Rattle.httparse.specs.Grammar.{RequestHead}
use Rattle.cds_http.specs.declared.next.Fault.{Fault}
use Rattle.cds_http.specs.declared.next.Fault.TheVariants.{Truncated}
use Rattle.cds_http.specs.Lines.{lines_of, size_of, is_empty_line}
use Rattle.cds_http.specs.Fields.{fields_of, expects_continue, closes}
use Rattle.cds_http.specs.Front.{Front, waits, fails, heads, IsFront}

-- a whole request
pub record Message : Type 0 where
  -- the method, as `GET`
  pub method : List ℕ
  -- the request target, with its query
  pub target : List ℕ
  -- the body, which is empty where no length is stated
  pub body : List ℕ
  -- 0 for HTTP/1.0, and 1 for HTTP/1.1
  pub version : ℕ
  -- whether the connection closes after the response
  pub close : Bool
  -- how many bytes of the stream it takes, with the empty lines before it
  pub size : ℕ

-- the message at the front of the bytes: a head of so many bytes, and as many of the body as it states
abbrev pub message_at : List ℕ → ℕ → RequestHead → ℕ → Message
message_at bytes size h body = record {
  method = h.method;
  target = h.target;
  body = take body (drop size bytes);
  version = h.minor;
  close = closes h.minor (fields_of h);
  size = size + body;
}

-- one thing that a stream has: the sender of a head waits for `100 Continue`; a whole request; a fault
pub data Item : Type 0 where
  continue : Item
  request : Message → Item
  fault : Fault → Item

-- the bytes are whole lines, each of them empty
abbrev pub is_only_empty_lines : List ℕ → Bool
is_only_empty_lines bytes = list_all is_empty_line (lines_of bytes) && (size_of (lines_of bytes) == length bytes)

-- The first item of what stands at the front, if one is decided. `continued` says that the `continue` of this
-- message came before, and `ended` that no byte follows.
abbrev pub item_of : ℕ → List ℕ → Bool → Bool → Front → Option Item
item_of place bytes continued ended waits =
    if ended && not (is_only_empty_lines bytes) then Some (fault (Truncated place)) else None
item_of place bytes continued ended (fails f) = Some (fault f)
item_of place bytes continued ended (heads size h body) =
    if expects_continue h.minor (fields_of h) body && not continued then Some continue
    else (if nat_le (size + body) (length bytes) then Some (request (message_at bytes size h body))
    else (if ended then Some (fault (Truncated place)) else None))

-- the first item of the bytes, which begin at the place, or None where none is decided
pub record FirstItem (place : ℕ) (bytes : List ℕ) (continued ended : Bool) (item : Option Item) : Type 0 where
  -- what stands at the front
  pub front : Front
  pub is_front : IsFront place bytes front
  pub item_is : item ≡ item_of place bytes continued ended front

-- the items after a request: none where it closes the connection
abbrev pub AreAfter : Bool → List Item → Type 0 → Type 0
AreAfter true items rest = items ≡ []
AreAfter false items rest = rest

-- The items of the bytes, which begin at the place. They stop before the first that isn't decided, after a fault,
-- and after a request that closes the connection.
abbrev pub AreItems : ℕ → List ℕ → Bool → Bool → List Item → Type 0
AreItems place bytes continued ended [] = FirstItem place bytes continued ended None
AreItems place bytes continued ended (continue ∷ items) =
    FirstItem place bytes continued ended (Some continue) × AreItems place bytes true ended items
AreItems place bytes continued ended (request m ∷ items) =
    FirstItem place bytes continued ended (Some (request m))
    × AreAfter m.close items (AreItems (place + m.size) (drop m.size bytes) false ended items)
AreItems place bytes continued ended (fault f ∷ items) =
    FirstItem place bytes continued ended (Some (fault f)) × (items ≡ [])

-- the items of a whole stream, which has ended or may go on
abbrev pub HasItems : List ℕ → Bool → List Item → Type 0
HasItems bytes ended items = AreItems 0 bytes false ended items
