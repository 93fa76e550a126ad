-- Responses that are the same whatever a desk holds.
use Rattle.std.specs.Prelude.{ℕ, Bool, true, false, List}
use Rattle.cds_http.specs.declared.next.Fault.{Fault}
use Rattle.cds_respond.specs.Replies.{fault_reply, memory_reply, keeper_reply}
use Rattle.cds_respond.specs.Response.{response_text, continue_text}
use Rattle.cds_respond.specs.declared.fixed.Fixed.{Fixed}
use Rattle.cds_respond.specs.declared.fixed.Fixed.TheVariants as fixed

-- the response to a fault, after which the connection closes; its body is never left out
abbrev pub fault_text : Fault → List ℕ
fault_text f = response_text (fault_reply f) true false

-- the responses where memory is wanting, and where the keeper failed
abbrev pub memory_text : Bool → Bool → List ℕ
memory_text close without_body = response_text memory_reply close without_body

abbrev pub keeper_text : Bool → Bool → List ℕ
keeper_text close without_body = response_text keeper_reply close without_body

-- the bytes of a fixed response
abbrev pub fixed_text : Fixed → List ℕ
fixed_text fixed.Continue = continue_text
fixed_text (fixed.Fault f) = fault_text f
fixed_text (fixed.NoMemory close without_body) = memory_text close without_body
fixed_text (fixed.KeeperFailed close without_body) = keeper_text close without_body
