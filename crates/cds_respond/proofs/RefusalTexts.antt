-- The texts of refusals that are written without memory.
use Rattle.std.proofs.Common.{◌≡◌, ℕ, ◌+◌, List, [], ◌++◌, Bool, true, false, refl, sym, ap, ◌∙◌, codes, decimal, length-append, append_assoc, append-nil, arith}
use Rattle.std.specs.Prelude.{length, None}
use Rattle.std.proofs.lemmas.Fmt.{decimal_digit}
use Rattle.cds_wire.specs.Reply.{is_plain_word, reply_text}
use Rattle.cds_wire.specs.declared.answer.Answer.TheVariants.{Refusal}
use Rattle.cds_wire.specs.declared.answer.Shown.TheVariants.{Number}
use Rattle.cds_wire.proofs.Written.{refusal_text as written_refusal}
use Rattle.cds_respond.specs.Response.{phrase, status_line, field_line, body_fields, close_field, head_text, response_text, refusal_body, refusal_text}
use Rattle.cds_http.specs.declared.limits.TheConstants.{MOST_BODY_BYTES, MOST_HEAD_BYTES, MOST_FIELDS}
use Rattle.cds_http.specs.declared.next.Fault.TheVariants.{Head, Truncated, LengthRequired, BodyTooLarge, HeadTooLarge, TooManyFields}
use Rattle.cds_respond.specs.declared.fixed.TheConstants.{FRAME_BYTES}
use Rattle.cds_respond.specs.Fixed.{fault_text, memory_text, keeper_text}
use Rattle.cds_respond.specs.Replies.{refusal_reply}

-- how many bytes the body of a refusal has
pub length-refusal_body : (word digits : List ℕ) → length (refusal_body word digits) ≡ 32 + length word + length digits
length-refusal_body word digits =
    let a = codes "{\"error\":\"" in
    let b = codes "\",\"number\":0,\"value\":" in
    omega (
      arith,
      length-append (a ++ word ++ b ++ digits) (codes "}"),
      length-append (a ++ word ++ b) digits,
      length-append (a ++ word) b,
      length-append a word,
    )

-- the same parts, one behind the other
regroup : (a w b n c d e : List ℕ) → a ++ w ++ b ++ n ++ c ++ d ++ e ≡ a ++ w ++ (b ++ (n ++ c)) ++ d ++ e
regroup a w b n c d e = simp append_assoc

-- the body of a refusal, as JSON
pub body_is : (word : List ℕ) (value : ℕ) → is_plain_word word ≡ true → reply_text (Refusal word 0 (Number value)) ≡ refusal_body word (decimal value)
body_is word value plain =
    written_refusal word 0 value plain
    ∙ regroup (codes "{\"error\":\"") word (codes "\",\"number\":") (decimal 0) (codes ",\"value\":") (decimal value) (codes "}")
    ∙ ap (λ (zero : List ℕ). codes "{\"error\":\"" ++ word ++ (codes "\",\"number\":" ++ (zero ++ codes ",\"value\":")) ++ decimal value ++ codes "}") (decimal_digit 0 (omega arith))

-- the parts of a body, one behind the other
pub body_parts : (a word b digits e : List ℕ) → a ++ (word ++ (b ++ (digits ++ (e ++ [])))) ≡ a ++ word ++ b ++ digits ++ e
body_parts a word b digits e = simp (append_assoc, append-nil)

-- the parts of a head with the same parts in fewer pieces
head_regroup : (a b c d e k co m l g cl : List ℕ)
    → a ++ (b ++ (c ++ (d ++ ((e ++ (k ++ (co ++ (m ++ (e ++ (l ++ co)))))) ++ (g ++ (e ++ (cl ++ (e ++ []))))))))
    ≡ ((((((a ++ b) ++ c) ++ d) ++ e) ++ ((((k ++ co) ++ m) ++ e) ++ (((l ++ co) ++ g) ++ e)) ++ []) ++ cl) ++ e
head_regroup a b c d e k co m l g cl = simp (append_assoc, append-nil)

-- the parts of a head, one behind the other
pub head_parts : (status count : ℕ) (close : Bool)
    → codes "HTTP/1.1 " ++ (decimal status ++ (codes " " ++ (phrase status ++ (codes "\r\nContent-Type: application/json\r\nContent-Length: " ++ (decimal count ++ (codes "\r\n" ++ (close_field close ++ (codes "\r\n" ++ []))))))))
    ≡ head_text status (codes "application/json") count None close
unfolding head_text status_line field_line
head_parts status count close =
    head_regroup (codes "HTTP/1.1 ") (decimal status) (codes " ") (phrase status) (codes "\r\n") (codes "Content-Type") (codes ": ") (codes "application/json") (codes "Content-Length") (decimal count) (close_field close)

-- the pieces of a head, each what it is
pub head_pieces : (status count : ℕ) (close : Bool) (code name digits field : List ℕ) → code ≡ decimal status → name ≡ phrase status → digits ≡ decimal count → field ≡ close_field close
    → codes "HTTP/1.1 " ++ (code ++ (codes " " ++ (name ++ (codes "\r\nContent-Type: application/json\r\nContent-Length: " ++ (digits ++ (codes "\r\n" ++ (field ++ (codes "\r\n" ++ []))))))))
    ≡ head_text status (codes "application/json") count None close
head_pieces status count close code name digits field a b c d = rw (a, b, c, d) (head_parts status count close)

-- two fields were added
pub fields_added : (new mid old media digits m : List ℕ) (count : ℕ) → new ≡ mid ++ field_line (codes "Content-Length") digits → mid ≡ old ++ field_line (codes "Content-Type") media
    → media ≡ m → digits ≡ decimal count → new ≡ old ++ body_fields m count
fields_added new mid old media digits m count a b c d =
    rw (a, b, c, d) (append_assoc old (field_line (codes "Content-Type") m) (field_line (codes "Content-Length") (decimal count)))

-- the response of a refusal
pub refusal_is : (status : ℕ) (word : List ℕ) (value : ℕ) (close without_body : Bool) → is_plain_word word ≡ true
    → refusal_text status word value close without_body ≡ response_text (refusal_reply status word 0 (Number value)) close without_body
unfolding response_text
refusal_is status word value close without_body plain =
    let body = sym (body_is word value plain) in
    let count : FRAME_BYTES + length word + length (decimal value) ≡ length (reply_text (Refusal word 0 (Number value))) = sym (length-refusal_body word (decimal value)) ∙ ap length body in
    rw (count, body) refl

pub head_is : (place : ℕ) → refusal_text 400 (codes "head") place true false ≡ fault_text (Head place)
head_is place = refusal_is 400 (codes "head") place true false refl

pub truncated_is : (place : ℕ) → refusal_text 400 (codes "truncated") place true false ≡ fault_text (Truncated place)
truncated_is place = refusal_is 400 (codes "truncated") place true false refl

pub length_is : (place : ℕ) → refusal_text 411 (codes "length") place true false ≡ fault_text (LengthRequired place)
length_is place = refusal_is 411 (codes "length") place true false refl

pub body_too_large_is : (value : ℕ) → value ≡ MOST_BODY_BYTES → refusal_text 413 (codes "body") value true false ≡ fault_text BodyTooLarge
body_too_large_is value is = rw is (refusal_is 413 (codes "body") MOST_BODY_BYTES true false refl)

pub head_too_large_is : (value : ℕ) → value ≡ MOST_HEAD_BYTES → refusal_text 431 (codes "size") value true false ≡ fault_text HeadTooLarge
head_too_large_is value is = rw is (refusal_is 431 (codes "size") MOST_HEAD_BYTES true false refl)

pub fields_is : (value : ℕ) → value ≡ MOST_FIELDS → refusal_text 431 (codes "fields") value true false ≡ fault_text TooManyFields
fields_is value is = rw is (refusal_is 431 (codes "fields") MOST_FIELDS true false refl)

pub memory_is : (close without_body : Bool) → refusal_text 507 (codes "memory") 0 close without_body ≡ memory_text close without_body
memory_is close without_body = refusal_is 507 (codes "memory") 0 close without_body refl

pub keeper_is : (close without_body : Bool) → refusal_text 503 (codes "keeper") 0 close without_body ≡ keeper_text close without_body
keeper_is close without_body = refusal_is 503 (codes "keeper") 0 close without_body refl
