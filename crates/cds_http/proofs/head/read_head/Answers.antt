-- The head that was parsed is all of the bytes, and its words and fields are the grammar's.
use Rattle.std.proofs.Common.{◌≡◌, ◌+◌, ℕ, List, [], length, drop, map, take, ◌-◌, Some, None, Ok, ap, sym, ◌∙◌, refl, arith}
use Rattle.std.proofs.lemmas.Result.{err_from_is_err_and}
use Rattle.std.specs.List.{prefix_len}
use Rattle.httparse.specs.Spans.{header_bytes}
use Rattle.httparse.specs.Pieces.{is_newline}
use Rattle.httparse.specs.Grammar.{RequestHead, ReadsRequest, print_blank}
use Rattle.http1.specs.Fields.{Header}
use Rattle.cds_http.specs.declared.next.Span.{Span}
use Rattle.cds_http.specs.Fields.{fields_of, body_length, closes, expects_continue}
use Rattle.cds_http.specs.Front.{with_length, fails}
use Rattle.cds_http.proofs.ReadLemmas.{whole_head, few_fields, blank_is, length-span, words_fit, head_is}
use Rattle.cds_http.proofs.head.read_head.Goals as goal
use Rattle.cds_http.proofs.head.read_head.Goals.{In-Some}

the_head : (c : In-Some) → RequestHead
the_head c = c.in-Some.ensures.1.0

reads : (c : In-Some) → ReadsRequest c.args.bytes.now (the_head c) []
unfolding the_head
reads c = whole_head c.args.bytes.now (the_head c) (drop c.in-Some.spans.len c.args.bytes.now) c.requires.whole c.in-Some.ensures.1.1.reads

pub returns-in_default : goal.returns-in_default
returns-in_default c = (None, λ h reads. absurd (omega (arith, few_fields c.args.bytes.now h c.requires.whole reads, c.in_default.ensures h reads)), refl)

fields : (c : In-Some) → map (header_bytes c.args.bytes.now) (take c.in-Some.spans.headers c.parse_head.new.headers) ≡ fields_of (the_head c)
unfolding the_head
fields c = c.in-Some.ensures.1.1.fields

pub returns-in_err-length : goal.returns-in_err-length
returns-in_err-length c =
    let s = (goal.at.returns-in_err-length c).In-Some in
    let p = err_from_is_err_and c.from_residual.result c.from_residual.ensures.1 in
    let stated = ap (body_length c.args.place) (sym (fields s)) ∙ sym c.in_err-length.ensures in
    rw p.1 (Some (the_head s), reads s, ap (with_length (length c.args.bytes.now) (the_head s)) stated ∙ ap fails (sym p.2))

before : (c : In-Some) → prefix_len is_newline c.args.bytes.now ≡ length (print_blank (the_head c).blank)
before c = blank_is c.args.bytes.now (the_head c) (reads c)

method : (c : In-Some) → c.in-Some.spans.method.end - c.in-Some.spans.method.start ≡ length (the_head c).method
unfolding the_head
method c =
    let within = c.in-Some.ensures.0 in
    length-span c.args.bytes.now c.in-Some.spans.method (the_head c).method (within.method.0, omega (arith, within.method.1, within.section.len_fits)) c.in-Some.ensures.1.1.method

path : (c : In-Some) → c.in-Some.spans.path.end - c.in-Some.spans.path.start ≡ length (the_head c).target
unfolding the_head
path c =
    let within = c.in-Some.ensures.0 in
    length-span c.args.bytes.now c.in-Some.spans.path (the_head c).target (within.path.0, omega (arith, within.path.1, within.section.len_fits)) c.in-Some.ensures.1.1.path

version : (c : In-Some) → c.in-Some.spans.version ≡ (the_head c).minor
unfolding the_head
version c = c.in-Some.ensures.1.1.version

pub span_at-method-requires-clause-in_head : goal.span_at-method-requires-clause-in_head
span_at-method-requires-clause-in_head c =
    let s = (goal.at.span_at-method-requires-clause-in_head c).In-Some in
    omega (arith, before s, method s, words_fit c.args.bytes.now (the_head s) (reads s), c.requires.in_head)

pub span_at-path-requires-clause-in_head : goal.span_at-path-requires-clause-in_head
span_at-path-requires-clause-in_head c =
    let s = (goal.at.span_at-path-requires-clause-in_head c).In-Some in
    omega (arith, before s, method s, path s, words_fit c.args.bytes.now (the_head s) (reads s), c.requires.in_head, ap (λ (x : Span). x.end) c.span_at-method.ensures)

pub returns : goal.returns
returns c =
    let s = (goal.at.returns c).In-Some in
    let h = the_head s in
    let n = length c.args.bytes.now in
    let stated : body_length c.args.place (fields_of h) ≡ Ok c.in_ok-length.length = ap (body_length c.args.place) (sym (fields s)) ∙ sym c.in_ok-length.ensures in
    let start = c.blank_len.result in
    let target = c.in-Some.spans.path.end - c.in-Some.spans.path.start in
    let word : c.span_at-method.result ≡ record { start = start; end = start + length h.method } =
    c.span_at-method.ensures ∙ ap (λ (n : ℕ). let w : Span = record { start = start; end = start + n } in w) (method s) in
    let next : c.span_at-path.result ≡ record { start = start + length h.method + 1; end = start + length h.method + 1 + length h.target } =
    c.span_at-path.ensures
    ∙ ap (λ (e : ℕ). let w : Span = record { start = e + 1; end = e + 1 + target } in w) (ap (λ (x : Span). x.end) word)
    ∙ ap (λ (n : ℕ). let w : Span = record { start = start + length h.method + 1; end = start + length h.method + 1 + n } in w) (path s) in
    let pairs = map (header_bytes c.args.bytes.now) (take c.in-Some.spans.headers c.parse_head.new.headers) in
    let close = c.closes.ensures ∙ ap (λ (v : ℕ). closes v pairs) (version s) ∙ ap (closes h.minor) (fields s) in
    let expects = c.expects_continue.ensures ∙ ap (λ (v : ℕ). expects_continue v pairs c.in_ok-length.length) (version s)
    ∙ ap (λ (fs : List Header). expects_continue h.minor fs c.in_ok-length.length) (fields s) in
    let blank : c.blank_len.result ≡ length (print_blank h.blank) = c.blank_len.ensures ∙ before s in
    (Some h, reads s, (n, h, c.in_ok-length.length, ap (with_length n h) stated, head_is n c.in_ok-length.length c.blank_len.result h c.span_at-method.result c.span_at-path.result c.in-Some.spans.version c.closes.result c.expects_continue.result word next (version s) close expects blank))
