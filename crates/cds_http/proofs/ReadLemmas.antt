-- What `httparse` answers of a head that has ended.
use Rattle.std.proofs.Common.{◌≡◌, ℕ, ◌+◌, ◌-◌, ◌≤◌, Bool, List, [], ◌∷◌, ◌++◌, length, refl, sym, ap, ◌∙◌, arith, length-append}
use Rattle.std.specs.List.{prefix_len}
use Rattle.std.proofs.lemmas.List.{nil_from_length}
use Rattle.httparse.specs.declared.spans.Span as http
use Rattle.httparse.specs.Grammar.{LineEnd, crlf, lf, print_end, print_blank, print_section, print_version, RequestHead, ReadsRequest, print_request}
use Rattle.httparse.specs.Spans.{IsWithin, span_bytes}
use Rattle.httparse.specs.Pieces.{is_newline, Stops}
use Rattle.httparse.proofs.RunLemmas.{length-slice_range}
use Rattle.httparse.proofs.PieceLemmas.{Stops_token}
use Rattle.httparse.proofs.GrammarLemmas.{print_request-append}
use Rattle.cds_http.specs.declared.limits.TheConstants.{MOST_FIELDS}
use Rattle.cds_http.specs.declared.next.Span.{Span}
use Rattle.cds_http.specs.declared.head.Head.{Head}
use Rattle.cds_http.specs.Lines.{lines_of, ended, state_of_lines}
use Rattle.cds_http.specs.Fields.{fields_of, expects_continue, closes}
use Rattle.cds_http.specs.Scan.{head_of}
use Rattle.cds_http.proofs.HeadLemmas.{read_head_ends}

-- a head at the front of bytes that end with the head is all of them
pub whole_head : (bytes : List ℕ) (h : RequestHead) (rest : List ℕ) → state_of_lines (lines_of bytes) ≡ ended (length bytes)
    → ReadsRequest bytes h rest → ReadsRequest bytes h []
whole_head bytes h rest state reads =
    let ends = read_head_ends h rest (length bytes) reads.0 (ap (λ (b : List ℕ). state_of_lines (lines_of b)) (sym reads.1) ∙ state) in
    let none : rest ≡ [] = nil_from_length rest (omega (arith, ends.1, ap length reads.1, length-append (print_request h) rest)) in
    (reads.0, reads.1 ∙ ap (λ (r : List ℕ). print_request h ++ r) none)

-- and it has no more fields than the lines may be
pub few_fields : (bytes : List ℕ) (h : RequestHead) → state_of_lines (lines_of bytes) ≡ ended (length bytes) → ReadsRequest bytes h [] → length h.fields ≤ MOST_FIELDS
few_fields bytes h state reads =
    (read_head_ends h [] (length bytes) reads.0 (ap (λ (b : List ℕ). state_of_lines (lines_of b)) (sym reads.1) ∙ state)).0

-- the line ends at the front
prefix_len-blank : (ends : List LineEnd) (rest : List ℕ) → Stops is_newline rest → prefix_len is_newline (print_blank ends ++ rest) ≡ length (print_blank ends)
prefix_len-blank [] [] stops = refl
prefix_len-blank [] (b ∷ rest) stops = rw stops
prefix_len-blank (crlf ∷ ends) rest stops = omega (arith, prefix_len-blank ends rest stops)
prefix_len-blank (lf ∷ ends) rest stops = omega (arith, prefix_len-blank ends rest stops)

pub blank_is : (bytes : List ℕ) (h : RequestHead) → ReadsRequest bytes h [] → prefix_len is_newline bytes ≡ length (print_blank h.blank)
blank_is bytes h reads =
    let rest = h.method ++ 32 ∷ (h.target ++ 32 ∷ (print_version h.minor ++ (print_end h.line_end ++ (print_section h.fields h.last ++ [])))) in
    ap (prefix_len is_newline) (reads.1 ∙ print_request-append h [])
    ∙ prefix_len-blank h.blank rest (Stops_token h.method (32 ∷ (h.target ++ 32 ∷ (print_version h.minor ++ (print_end h.line_end ++ (print_section h.fields h.last ++ []))))) reads.0.method.0 reads.0.method.1)

-- a word's span has its length
pub length-span : (bytes : List ℕ) (s : http.Span) (word : List ℕ) → IsWithin (length bytes) s → span_bytes bytes s ≡ word → s.end - s.start ≡ length word
length-span bytes s word within is = sym (length-slice_range bytes s.start s.end within.0 within.1) ∙ ap length is

-- the words of the request line lie within the head
pub words_fit : (bytes : List ℕ) (h : RequestHead) → ReadsRequest bytes h [] → length (print_blank h.blank) + length h.method + 1 + length h.target ≤ length bytes
words_fit bytes h reads =
    let rest = print_version h.minor ++ (print_end h.line_end ++ (print_section h.fields h.last ++ [])) in
    omega (
      arith,
      ap length (reads.1 ∙ print_request-append h []),
      length-append (print_blank h.blank) (h.method ++ 32 ∷ (h.target ++ 32 ∷ rest)),
      length-append h.method (32 ∷ (h.target ++ 32 ∷ rest)),
      length-append h.target (32 ∷ rest),
    )

pub head_is : (size body before : ℕ) (h : RequestHead) (method path : Span) (version : ℕ) (close expects : Bool)
    → method ≡ record { start = before; end = before + length h.method }
    → path ≡ record { start = before + length h.method + 1; end = before + length h.method + 1 + length h.target }
    → version ≡ h.minor → close ≡ closes h.minor (fields_of h) → expects ≡ expects_continue h.minor (fields_of h) body → before ≡ length (print_blank h.blank)
    → ◌≡◌ {A = Head} (record {
      request = record { method = method; path = path; body = record { start = size; end = size + body }; version = version; close = close };
      expects = expects;
    }) (head_of size h body)
head_is size body before h method path version close expects a b c d e f = rw (a, b, c, d, e, f) refl
