-- What the code knows of the message at the front.
use Rattle.std.specs.Prelude.{◌≡◌, ℕ, Bool, false, ◌&&◌, ◌==◌, not, nat_le, if◌then◌else◌, List, length}
use Rattle.httparse.specs.Grammar.{RequestHead}
use Rattle.cds_http.specs.declared.head.Head.{Head as TheHead}
use Rattle.cds_http.specs.declared.known.Known.{Known}
use Rattle.cds_http.specs.declared.known.Known.TheVariants.{Lines, Head, Fault}
use Rattle.cds_http.specs.declared.next.Next.{Next}
use Rattle.cds_http.specs.declared.next.Next.TheVariants as next
use Rattle.cds_http.specs.Front.{waits, fails, heads, IsFront}
use Rattle.cds_http.specs.Scan.{IsScanned, head_of}

-- this head stands at the front
pub record IsHeadAt (place : ℕ) (bytes : List ℕ) (head : TheHead) : Type 0 where
  pub size : ℕ
  pub tree : RequestHead
  pub body : ℕ
  pub is_front : IsFront place bytes (heads size tree body)
  pub head_is : head ≡ head_of size tree body

-- what is known holds of the bytes
abbrev pub Knows : ℕ → List ℕ → Known → Type 0
Knows place bytes (Lines scan) = IsScanned bytes scan
Knows place bytes (Head head) = IsHeadAt place bytes head
Knows place bytes (Fault f) = IsFront place bytes (fails f)

-- and every byte was looked at
abbrev pub KnowsAll : ℕ → List ℕ → Known → Type 0
KnowsAll place bytes (Lines scan) = IsScanned bytes scan × (scan.looked ≡ length bytes) × IsFront place bytes waits
KnowsAll place bytes (Head head) = IsHeadAt place bytes head
KnowsAll place bytes (Fault f) = IsFront place bytes (fails f)

-- what is known of the front has this next
abbrev pub AnswersFront : Known → ℕ → Bool → Next → Type 0
AnswersFront (Lines scan) held continued answer = answer ≡ next.More
AnswersFront (Fault f) held continued answer = answer ≡ next.Fault f
AnswersFront (Head head) held continued answer =
    answer ≡ (if head.expects && not continued then next.Continue
    else (if nat_le head.request.body.end held then next.Request head.request else next.More))

-- what is known of the front says that it has empty lines alone, which take so many bytes
abbrev pub is_blank : Known → ℕ → Bool
is_blank (Lines scan) held = (scan.count == 0) && (scan.line == held)
is_blank (Head head) held = false
is_blank (Fault f) held = false
