-- What stands at the front of a byte string: a head by the default grammar of `httparse`, a fault, or too little.
use Rattle.std.specs.Prelude.{◌≡◌, ℕ, List, [], take, Option, None, Some, Result, Ok, Err}
use Rattle.httparse.specs.Grammar.{RequestHead, ReadsRequest}
use Rattle.cds_http.specs.declared.next.Fault.{Fault}
use Rattle.cds_http.specs.declared.next.Fault.TheVariants.{Head, HeadTooLarge, TooManyFields}
use Rattle.cds_http.specs.Lines.{HeadState, open_head, crowded, large, ended, head_state}
use Rattle.cds_http.specs.Fields.{fields_of, body_length}

-- the head has not ended; a fault; or a head of so many bytes, and the length of the body that it states
pub data Front : Type 0 where
  waits : Front
  fails : Fault → Front
  heads : ℕ → RequestHead → ℕ → Front

-- the bytes are this head of the grammar, with the empty lines before it; or they are no head
abbrev pub ReadsHead : List ℕ → Option RequestHead → Type 0
ReadsHead bytes None = (h : RequestHead) → ¬ (ReadsRequest bytes h [])
ReadsHead bytes (Some h) = ReadsRequest bytes h []

-- a head with what its fields state of the body
abbrev pub with_length : ℕ → RequestHead → Result ℕ Fault → Front
with_length size h (Ok body) = heads size h body
with_length size h (Err f) = fails f

-- what a head that has ended comes to, where this was read in its bytes
abbrev pub judged : ℕ → ℕ → Option RequestHead → Front
judged place size None = fails (Head place)
judged place size (Some h) = with_length size h (body_length place (fields_of h))

-- in this state of the head, this stands at the front
abbrev pub IsFrontIn : ℕ → List ℕ → HeadState → Front → Type 0
IsFrontIn place bytes open_head front = front ≡ waits
IsFrontIn place bytes crowded front = front ≡ fails TooManyFields
IsFrontIn place bytes large front = front ≡ fails HeadTooLarge
IsFrontIn place bytes (ended size) front =
    (read : Option RequestHead) × ReadsHead (take size bytes) read × (front ≡ judged place size read)

-- this stands at the front of the bytes, which begin at the place
abbrev pub IsFront : ℕ → List ℕ → Front → Type 0
IsFront place bytes front = IsFrontIn place bytes (head_state bytes) front
