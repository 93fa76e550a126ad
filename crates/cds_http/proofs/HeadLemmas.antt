-- The lines of a head that the grammar reads.
use Rattle.std.proofs.Common.{◌≡◌, ◌≢◌, ℕ, ◌+◌, ◌<◌, ◌≤◌, Bool, true, false, cond, eqb, IsTrue, List, [], ◌∷◌, ◌++◌, length, refl, sym, ap, ◌∙◌, subst, arith, append_assoc, append-nil, length-append}
use Rattle.std.specs.List.{All, flat_map}
use Rattle.std.proofs.lemmas.List.Elements.{All-from_recursion, All-head, All-tail, All-append, All-cons, All-nil, All-weaker}
use Rattle.std.proofs.lemmas.Bool.Decides.{nat_tests}
use Rattle.httparse.specs.Grammar.{is_token_byte, is_uri_byte, is_value_byte, LineEnd, crlf, lf, print_end, print_blank, print_version, Field, print_field, IsField, print_section, RequestHead, print_request, IsRequestHead}
use Rattle.httparse.proofs.GrammarLemmas.{print_request-append, cons-append}
use Rattle.cds_http.specs.Lines.{lines_of, is_empty_line, crowded, ended, state_of_lines}
use Rattle.cds_http.specs.Scan.{state_on}
use Rattle.cds_http.proofs.LineLemmas.{lines_of-line, state_on-zero}

-- no line feed
abbrev Clean : List ℕ → Type 0
Clean bytes = All (λ b. b ≢ 10) bytes

clean_token : (b : ℕ) → IsTrue (is_token_byte b) → b ≢ 10
unfolding is_token_byte
clean_token b token e = let h : true ≡ false = sym (subst (λ (v : ℕ). is_token_byte v ≡ true) e token) in cc

clean_uri : (b : ℕ) → IsTrue (is_uri_byte b) → b ≢ 10
clean_uri b uri e = let h : is_uri_byte 10 ≡ true = subst (λ (v : ℕ). is_uri_byte v ≡ true) e uri in cc

clean_value : (b : ℕ) → IsTrue (is_value_byte b) → b ≢ 10
clean_value b value e = let h : is_value_byte 10 ≡ true = subst (λ (v : ℕ). is_value_byte v ≡ true) e value in cc

cr_no_feed : ◌≡◌ {A = ℕ} 13 10 → ⊥
cr_no_feed e = omega arith

-- what stands before the line feed
abbrev line_with : LineEnd → List ℕ → List ℕ
line_with crlf line = line ++ 13 ∷ []
line_with lf line = line

lines_of-end : (end : LineEnd) (line rest : List ℕ) → Clean line → lines_of (line ++ (print_end end ++ rest)) ≡ line_with end line ∷ lines_of rest
lines_of-end crlf line rest clean =
    ap lines_of (sym (append_assoc line (13 ∷ []) (10 ∷ rest)))
    ∙ lines_of-line (line ++ 13 ∷ []) rest (All-append (λ b. b ≢ 10) line (13 ∷ []) clean (All-cons (λ b. b ≢ 10) 13 [] cr_no_feed (All-nil (λ b. b ≢ 10))))
lines_of-end lf line rest clean = lines_of-line line rest clean

length-line_with : (end : LineEnd) (line : List ℕ) → length (line_with end line) + 1 ≡ length line + length (print_end end)
length-line_with crlf line = omega (arith, length-append line (13 ∷ []))
length-line_with lf line = omega arith

-- two bytes are no empty line
long_line : (end : LineEnd) (front : List ℕ) (b : ℕ) (back : List ℕ) → 0 < length front → is_empty_line (line_with end (front ++ b ∷ back)) ≡ false
long_line end [] b back some = absurd (omega arith)
long_line crlf (x ∷ []) b back some = refl
long_line lf (x ∷ []) b back some = refl
long_line crlf (x ∷ y ∷ front) b back some = refl
long_line lf (x ∷ y ∷ front) b back some = refl

-- the empty lines at the front
state_on-blank : (ends : List LineEnd) (at : ℕ) (rest : List ℕ)
    → state_on 0 at (lines_of (print_blank ends ++ rest)) ≡ state_on 0 (at + length (print_blank ends)) (lines_of rest)
state_on-blank [] at rest = let e : at + 0 ≡ at = omega arith in rw e
state_on-blank (end ∷ ends) at rest =
    let first = ap lines_of (append_assoc (print_end end) (print_blank ends) rest) ∙ lines_of-end end [] (print_blank ends ++ rest) (All-nil (λ b. b ≢ 10)) in
    let size : at + (length (line_with end []) + 1) + length (print_blank ends) ≡ at + length (print_blank (end ∷ ends)) =
    omega (arith, length-line_with end [], length-append (print_end end) (print_blank ends)) in
    rw first (empty end ∙ state_on-blank ends (at + (length (line_with end []) + 1)) rest ∙ ap (λ (n : ℕ). state_on 0 n (lines_of rest)) size)
  where
    empty : (end : LineEnd) → state_on 0 at (line_with end [] ∷ lines_of (print_blank ends ++ rest))
        ≡ state_on 0 (at + (length (line_with end []) + 1)) (lines_of (print_blank ends ++ rest))
    empty crlf = refl
    empty lf = refl

-- a line of the head, where one more is not too many
state_on-full : (count at n : ℕ) (line : List ℕ) (lines : List (List ℕ)) → is_empty_line line ≡ false → count ≤ 65 → state_on count at (line ∷ lines) ≡ ended n
    → (count + 1 ≤ 65) × (state_on (count + 1) (at + (length line + 1)) lines ≡ ended n)
state_on-full count at n line lines full few is = by_test (eqb count 65) refl (rw full at is)
  where
    by_test : (t : Bool) → eqb count 65 ≡ t → cond t crowded (state_on (count + 1) (at + (length line + 1)) lines) ≡ ended n
        → (count + 1 ≤ 65) × (state_on (count + 1) (at + (length line + 1)) lines ≡ ended n)
    by_test true is' is = absurd (cc)
    by_test false is' is = (grind (arith, nat_tests), is)

-- the empty line that ends the head
state_on-last : (end : LineEnd) (count at n : ℕ) (lines : List (List ℕ)) → 0 < count → state_on count at (line_with end [] ∷ lines) ≡ ended n
    → n ≡ at + length (print_end end)
state_on-last end count at n lines some is =
    let e : eqb count 0 ≡ false = grind (arith, nat_tests) in
    by_end end is e
  where
    by_end : (end : LineEnd) → state_on count at (line_with end [] ∷ lines) ≡ ended n → eqb count 0 ≡ false → n ≡ at + length (print_end end)
    by_end crlf is e = let h : ended (at + 2) ≡ ended n = sym (rw e) ∙ is in cc
    by_end lf is e = let h : ended (at + 1) ≡ ended n = sym (rw e) ∙ is in cc

-- a field line
clean_field : (f : Field) → IsField f → Clean (f.name ++ 58 ∷ f.raw)
clean_field f is =
    All-append (λ b. b ≢ 10) f.name (58 ∷ f.raw) (All-weaker (λ b. IsTrue (is_token_byte b)) (λ b. b ≢ 10) clean_token f.name is.name.1)
    (All-cons (λ b. b ≢ 10) 58 f.raw colon_no_feed (All-weaker (λ b. IsTrue (is_value_byte b)) (λ b. b ≢ 10) clean_value f.raw is.raw))
  where
    colon_no_feed : ◌≡◌ {A = ℕ} 58 10 → ⊥
    colon_no_feed e = omega arith

field_line : (f : Field) (rest : List ℕ) → IsField f → lines_of (print_field f ++ rest) ≡ line_with f.end (f.name ++ 58 ∷ f.raw) ∷ lines_of rest
field_line f rest is = ap lines_of (append_assoc (f.name ++ 58 ∷ f.raw) (print_end f.end) rest) ∙ lines_of-end f.end (f.name ++ 58 ∷ f.raw) rest (clean_field f is)

length-field_line : (f : Field) → length (line_with f.end (f.name ++ 58 ∷ f.raw)) + 1 ≡ length (print_field f)
length-field_line f = length-line_with f.end (f.name ++ 58 ∷ f.raw) ∙ sym (length-append (f.name ++ 58 ∷ f.raw) (print_end f.end))

-- the fields, and the empty line that ends them
state_on-section : (fields : List Field) (last : LineEnd) (rest : List ℕ) (count at n : ℕ) → All IsField fields → 0 < count → count ≤ 65
    → state_on count at (lines_of (print_section fields last ++ rest)) ≡ ended n
    → (count + length fields ≤ 65) × (n ≡ at + length (print_section fields last))
state_on-section [] last rest count at n are some few is =
    let line = lines_of-end last [] rest (All-nil (λ b. b ≢ 10)) in
    (omega arith, state_on-last last count at n (lines_of rest) some (ap (state_on count at) (sym line) ∙ is))
state_on-section (f ∷ fields) last rest count at n are some few is =
    let tail = flat_map print_field fields in
    let parts : print_section (f ∷ fields) last ++ rest ≡ print_field f ++ (print_section fields last ++ rest) =
    ap (λ (b : List ℕ). b ++ rest) (append_assoc (print_field f) tail (print_end last)) ∙ append_assoc (print_field f) (tail ++ print_end last) rest in
    let line : lines_of (print_section (f ∷ fields) last ++ rest) ≡ line_with f.end (f.name ++ 58 ∷ f.raw) ∷ lines_of (print_section fields last ++ rest) =
    ap lines_of parts ∙ field_line f (print_section fields last ++ rest) (All-head IsField f fields are) in
    let full = long_line f.end f.name 58 f.raw (All-head IsField f fields are).name.0 in
    let step = state_on-full count at n (line_with f.end (f.name ++ 58 ∷ f.raw)) (lines_of (print_section fields last ++ rest)) full few (ap (state_on count at) (sym line) ∙ is) in
    let later = state_on-section fields last rest (count + 1) (at + (length (line_with f.end (f.name ++ 58 ∷ f.raw)) + 1)) n (All-tail IsField f fields are) (omega arith) step.0 step.1 in (
      omega (arith, later.0),
      omega (arith, later.1, length-field_line f, length-append (print_field f ++ tail) (print_end last), length-append (print_field f) tail, length-append tail (print_end last)),
    )

above_feed : (b : ℕ) → 10 < b → b ≢ 10
above_feed b above e = omega arith

clean_version : (minor : ℕ) → Clean (print_version minor)
clean_version minor =
    All-from_recursion (λ b. b ≢ 10) (print_version minor) (
      above_feed 72 (omega arith),
      (above_feed 84 (omega arith), (above_feed 84 (omega arith), (above_feed 80 (omega arith), (above_feed 47 (omega arith), (above_feed 49 (omega arith), (above_feed 46 (omega arith), (above_feed (48 + minor) (omega arith), tt))))))),
    )

-- what the request line has
abbrev request_line : RequestHead → List ℕ
request_line h = h.method ++ 32 ∷ (h.target ++ 32 ∷ print_version h.minor)

clean_request : (h : RequestHead) → IsRequestHead h → Clean (request_line h)
clean_request h is =
    let target = All-append (λ b. b ≢ 10) h.target (32 ∷ print_version h.minor) (All-weaker (λ b. IsTrue (is_uri_byte b)) (λ b. b ≢ 10) clean_uri h.target is.target.1)
    (All-cons (λ b. b ≢ 10) 32 (print_version h.minor) (above_feed 32 (omega arith)) (clean_version h.minor)) in
    All-append (λ b. b ≢ 10) h.method (32 ∷ (h.target ++ 32 ∷ print_version h.minor)) (All-weaker (λ b. IsTrue (is_token_byte b)) (λ b. b ≢ 10) clean_token h.method is.method.1)
    (All-cons (λ b. b ≢ 10) 32 (h.target ++ 32 ∷ print_version h.minor) (above_feed 32 (omega arith)) target)

print_request-parts : (h : RequestHead) (rest : List ℕ)
    → print_request h ++ rest ≡ print_blank h.blank ++ (request_line h ++ (print_end h.line_end ++ (print_section h.fields h.last ++ rest)))
print_request-parts h rest = print_request-append h rest ∙ regroup h.method h.target (print_version h.minor) (print_end h.line_end ++ (print_section h.fields h.last ++ rest))
  where
    regroup : (a b c r : List ℕ) → print_blank h.blank ++ (a ++ 32 ∷ (b ++ 32 ∷ (c ++ r))) ≡ print_blank h.blank ++ ((a ++ 32 ∷ (b ++ 32 ∷ c)) ++ r)
    regroup a b c r = simp (append_assoc, cons-append)

length-print_request : (h : RequestHead)
    → length (print_request h) ≡ length (print_blank h.blank) + (length (request_line h) + (length (print_end h.line_end) + length (print_section h.fields h.last)))
length-print_request h =
    ap length (sym (append-nil (print_request h)) ∙ print_request-parts h [] ∙ ap (λ (s : List ℕ). print_blank h.blank ++ (request_line h ++ (print_end h.line_end ++ s))) (append-nil (print_section h.fields h.last)))
    ∙ length-append (print_blank h.blank) (request_line h ++ (print_end h.line_end ++ print_section h.fields h.last))
    ∙ ap (λ (n : ℕ). length (print_blank h.blank) + n) (length-append (request_line h) (print_end h.line_end ++ print_section h.fields h.last)
    ∙ ap (λ (n : ℕ). length (request_line h) + n) (length-append (print_end h.line_end) (print_section h.fields h.last)))

-- A head of the grammar ends where its lines say, and has no more fields than they may be.
pub read_head_ends : (h : RequestHead) (rest : List ℕ) (n : ℕ) → IsRequestHead h → state_of_lines (lines_of (print_request h ++ rest)) ≡ ended n
    → (length h.fields ≤ 64) × (n ≡ length (print_request h))
read_head_ends h rest n is state =
    let section = print_section h.fields h.last ++ rest in
    let blank = length (print_blank h.blank) in
    let line = line_with h.line_end (request_line h) in
    let parts = ap (λ (b : List ℕ). state_on 0 0 (lines_of b)) (print_request-parts h rest)
    ∙ state_on-blank h.blank 0 (request_line h ++ (print_end h.line_end ++ section))
    ∙ ap (state_on 0 (0 + blank)) (lines_of-end h.line_end (request_line h) section (clean_request h is)) in
    let start : state_on 0 (0 + blank) (line ∷ lines_of section) ≡ ended n = sym parts ∙ state_on-zero (lines_of (print_request h ++ rest)) ∙ state in
    let step = state_on-full 0 (0 + blank) n line (lines_of section) (long_line h.line_end h.method 32 (h.target ++ 32 ∷ print_version h.minor) is.method.0) (omega arith) start in
    let one : 0 + 1 ≡ 1 = omega arith in
    let later = state_on-section h.fields h.last rest 1 (0 + blank + (length line + 1)) n is.fields (omega arith) (omega arith) step.1 in
    (omega (arith, later.0), omega (arith, later.1, length-print_request h, length-line_with h.line_end (request_line h)))
