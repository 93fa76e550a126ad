-- What `Messages` answers, from what it knows of the front.
use Rattle.std.proofs.Common.{◌≡◌, ◌≢◌, ℕ, ◌+◌, ◌-◌, ◌<◌, ◌≤◌, inl, inr, Bool, true, false, cond, not, ◌&&◌, ◌||◌, eqb, leb, List, [], ◌∷◌, ◌++◌, length, take, drop, get_or, slice_range, Option, Some, None, Result, Ok, Err, refl, sym, ap, ◌∙◌, subst, arith, append_assoc, append-nil, length-append}
use Rattle.std.specs.Prelude.{IfSome}
use Rattle.std.specs.List.{list_all}
use Rattle.std.proofs.lemmas.List.{take-append-le, drop-append-le, take_at, drop_at, take-append-drop, get_or_append_left}
use Rattle.std.proofs.lemmas.List.Folds.{list_all-append}
use Rattle.std.proofs.lemmas.Bool.{cases_lt}
use Rattle.std.proofs.lemmas.Bool.Decides.{nat_tests}
use Rattle.httparse.specs.Grammar.{RequestHead, ReadsRequest, print_blank, print_end, print_version, print_section}
use Rattle.httparse.proofs.GrammarLemmas.{print_request-append, cons-append}
use Rattle.cds_http.specs.declared.limits.TheConstants.{MESSAGE_ROOM}
use Rattle.cds_http.specs.declared.lines.Scan.{Scan}
use Rattle.cds_http.specs.declared.head.Head.{Head as TheHead}
use Rattle.cds_http.specs.declared.known.Known.{Known}
use Rattle.cds_http.specs.declared.known.Known.TheVariants.{Lines, Head, Fault}
use Rattle.cds_http.specs.declared.next.Fault.{Fault as TheFault}
use Rattle.cds_http.specs.declared.next.Fault.TheVariants.{Truncated}
use Rattle.cds_http.specs.declared.next.Request.{Request}
use Rattle.cds_http.specs.declared.next.Next.{Next}
use Rattle.cds_http.specs.declared.next.Next.TheVariants as next
use Rattle.cds_http.specs.Lines.{lines_of, size_of, is_empty_line, HeadState, open_head, crowded, large, ended, state_of_lines, unless_open, head_state}
use Rattle.cds_http.specs.Fields.{fields_of, expects_continue, body_length}
use Rattle.cds_http.specs.Front.{Front, waits, fails, heads, ReadsHead, with_length, judged, IsFrontIn, IsFront}
use Rattle.cds_http.specs.Items.{Message, message_at, Item, continue, request, fault, item_of, is_only_empty_lines, FirstItem, AreItems, AreAfter}
use Rattle.cds_http.specs.Stream.{Stream, request_of, message_of, item_in, next_of, Decides, IfRequest, IsRequestIn, is_continue, request_in, kept_answer, room_of, answered, dropped, fed, ItemsFrom, AddsAnswer, AddsRequest}
use Rattle.cds_http.specs.Scan.{IsScanned}
use Rattle.cds_http.specs.Known.{Knows, KnowsAll, AnswersFront, is_blank}
use Rattle.cds_http.specs.Inside.{WasTold}
use Rattle.cds_http.proofs.LineLemmas.{lines_of-stays, state_on-zero}
use Rattle.cds_http.proofs.ScanLemmas.{lines_of-rest}
use Rattle.cds_http.proofs.StateLemmas.{head_state-long, head_state-ended, ended_not_empty}
use Rattle.cds_http.proofs.ItemLemmas.{IsFront-stays, IsFront-unique, IsFront-size, IsFront-body, FirstItem-stays, FirstItem-unique}

-- ---- what is known stays known when bytes are fed

scanned_stays : (bytes more : List ℕ) (scan : Scan) → IsScanned bytes scan → IsScanned (bytes ++ more) scan
scanned_stays bytes more scan known =
    let front : take scan.line (bytes ++ more) ≡ take scan.line bytes = take-append-le scan.line bytes more (omega (arith, known.ordered, known.in_range)) in
    record {
      ordered = known.ordered;
      in_range = omega (arith, known.in_range, length-append bytes more);
      in_head = known.in_head;
      whole = rw front known.whole;
      state = rw front known.state;
      empty = rw front known.empty;
      count = known.count;
      no_feed = λ k low high. rw (get_or_append_left bytes more 0 k (omega (arith, known.in_range))) (known.no_feed k low high);
    }

pub Knows-stays : (place : ℕ) (bytes more : List ℕ) (known : Known) → Knows place bytes known → Knows place (bytes ++ more) known
Knows-stays place bytes more (Lines scan) is = scanned_stays bytes more scan is
Knows-stays place bytes more (Head head) is = record {
  size = is.size;
  tree = is.tree;
  body = is.body;
  is_front = IsFront-stays place bytes more (heads is.size is.tree is.body) (λ e. cc) is.is_front;
  head_is = is.head_is;
}
Knows-stays place bytes more (Fault f) is = IsFront-stays place bytes more (fails f) (λ e. cc) is

-- ---- the answer

-- the answer of what is known is what the bytes decide
pub answer_decides : (s : Stream) (known : Known) (answer : Next) → KnowsAll s.place s.bytes known → AnswersFront known (length s.bytes) s.continued answer → Decides s answer
answer_decides s (Lines scan) answer knows is = record { front = waits; is_front = knows.2; answer_is = is }
answer_decides s (Fault f) answer knows is = record { front = fails f; is_front = knows; answer_is = is }
answer_decides s (Head head) answer knows is = record {
  front = heads knows.size knows.tree knows.body;
  is_front = knows.is_front;
  answer_is = is ∙ ap (λ (h : TheHead). cond (h.expects && not s.continued) next.Continue (cond (leb h.request.body.end (length s.bytes)) (next.Request h.request) next.More)) knows.head_is;
}

-- ---- the message that a request is

-- the head of a front is read in its bytes
pub front_reads : (place : ℕ) (bytes : List ℕ) (size : ℕ) (h : RequestHead) (body : ℕ) → IsFront place bytes (heads size h body) → ReadsRequest (take size bytes) h []
front_reads place bytes size h body = in_state (head_state bytes)
  where
    with_read : (n : ℕ) (k : RequestHead) (r : Result ℕ TheFault) → ReadsRequest (take n bytes) k [] → heads size h body ≡ with_length n k r → ReadsRequest (take size bytes) h []
    with_read n k (Ok length) reads is =
        let a : size ≡ n = cc in
        let b : h ≡ k = cc in
        rw (a, b) reads
    with_read n k (Err f) reads is = absurd (cc)

    of_read : (n : ℕ) (read : Option RequestHead) → ReadsHead (take n bytes) read → heads size h body ≡ judged place n read → ReadsRequest (take size bytes) h []
    of_read n None reads is = absurd (cc)
    of_read n (Some k) reads is = with_read n k (body_length place (fields_of k)) reads is

    in_state : (s : HeadState) → IsFrontIn place bytes s (heads size h body) → ReadsRequest (take size bytes) h []
    in_state open_head is = absurd (cc)
    in_state crowded is = absurd (cc)
    in_state large is = absurd (cc)
    in_state (ended n) is = of_read n is.0 is.1 is.2

-- a word after a front
slice_word : (front word back : List ℕ) (start stop : ℕ) → start ≡ length front → stop ≡ start + length word → slice_range (front ++ (word ++ back)) start stop ≡ word
slice_word front word back start stop low high =
    let n : stop - start ≡ length word = omega arith in
    rw (n, drop_at front (word ++ back) start (sym low), take_at word back (length word) refl) refl

-- the words of a request line, in bytes that begin with it
module _ (bytes a m t r d : List ℕ) (parts : bytes ≡ (a ++ (m ++ 32 ∷ (t ++ 32 ∷ r))) ++ d) where
  method_at : slice_range bytes (length a) (length a + length m) ≡ m
  method_at =
      let split : bytes ≡ a ++ (m ++ (32 ∷ ((t ++ 32 ∷ r) ++ d))) = parts ∙ simp (append_assoc, cons-append) in
      ap (λ (b : List ℕ). slice_range b (length a) (length a + length m)) split
      ∙ slice_word a m (32 ∷ ((t ++ 32 ∷ r) ++ d)) (length a) (length a + length m) refl refl

  target_at : slice_range bytes (length a + length m + 1) (length a + length m + 1 + length t) ≡ t
  target_at =
      let front = a ++ (m ++ 32 ∷ []) in
      let split : bytes ≡ front ++ (t ++ (32 ∷ (r ++ d))) = parts ∙ simp (append_assoc, cons-append) in
      let start : length a + length m + 1 ≡ length front = omega (arith, length-append a (m ++ 32 ∷ []), length-append m (32 ∷ [])) in
      ap (λ (b : List ℕ). slice_range b (length a + length m + 1) (length a + length m + 1 + length t)) split
      ∙ slice_word front t (32 ∷ (r ++ d)) (length a + length m + 1) (length a + length m + 1 + length t) start refl

pub front_parts : (bytes : List ℕ) (size : ℕ) (h : RequestHead) → ReadsRequest (take size bytes) h []
    → (r : List ℕ) × (bytes ≡ (print_blank h.blank ++ (h.method ++ 32 ∷ (h.target ++ 32 ∷ r))) ++ drop size bytes)
front_parts bytes size h reads = (
  print_version h.minor ++ (print_end h.line_end ++ (print_section h.fields h.last ++ [])),
  sym (take-append-drop size bytes) ∙ ap (λ (b : List ℕ). b ++ drop size bytes) (reads.1 ∙ print_request-append h []),
)

-- the ranges of a request have its words and its body
message_of-request_of : (bytes : List ℕ) (size : ℕ) (h : RequestHead) (body : ℕ) → ReadsRequest (take size bytes) h []
    → message_of bytes (request_of size h body) ≡ message_at bytes size h body
message_of-request_of bytes size h body reads =
    let p = front_parts bytes size h reads in
    let n : size + body - size ≡ body = omega arith in
    rw (
      method_at bytes (print_blank h.blank) h.method h.target p.0 (drop size bytes) p.1,
      target_at bytes (print_blank h.blank) h.method h.target p.0 (drop size bytes) p.1,
      n,
    ) refl

-- and they lie within the bytes
request_lies : (bytes : List ℕ) (size : ℕ) (h : RequestHead) (body : ℕ) → size + body ≤ length bytes → ReadsRequest (take size bytes) h []
    → IsRequestIn bytes (request_of size h body)
request_lies bytes size h body fits reads =
    let p = front_parts bytes size h reads in
    let a = print_blank h.blank in
    let total = omega_fits bytes a h.method h.target p.0 (drop size bytes) p.1 in
    record {
      method_ordered = omega arith;
      method_in_range = omega (arith, total);
      path_ordered = omega arith;
      path_in_range = omega (arith, total);
      path_text = rw (target_at bytes a h.method h.target p.0 (drop size bytes) p.1) reads.0.target_text;
      body_ordered = omega arith;
      body_in_range = fits;
      version = reads.0.minor;
    }
  where
    omega_fits : (bytes a m t r d : List ℕ) → bytes ≡ (a ++ (m ++ 32 ∷ (t ++ 32 ∷ r))) ++ d → length a + length m + 1 + length t ≤ length bytes
    omega_fits bytes a m t r d parts =
        omega (
          arith,
          ap length parts,
          length-append (a ++ (m ++ 32 ∷ (t ++ 32 ∷ r))) d,
          length-append a (m ++ 32 ∷ (t ++ 32 ∷ r)),
          length-append m (32 ∷ (t ++ 32 ∷ r)),
          length-append t (32 ∷ r),
        )

-- ---- the item that an answer is

pub first_item : (s : Stream) (answer : Next) → Decides s answer → FirstItem s.place s.bytes s.continued false (item_in s.bytes answer)
first_item s answer x = record {
  front = x.front;
  is_front = x.is_front;
  item_is = ap (item_in s.bytes) x.answer_is ∙ same x.front x.is_front;
}
  where
    same : (f : Front) → IsFront s.place s.bytes f → item_in s.bytes (next_of (length s.bytes) s.continued f) ≡ item_of s.place s.bytes s.continued false f
    same waits is = refl
    same (fails f) is = refl
    same (heads size h body) is =
        by_test (expects_continue h.minor (fields_of h) body && not s.continued) (leb (size + body) (length s.bytes))
      where
        by_test : (due whole : Bool)
            → item_in s.bytes (cond due next.Continue (cond whole (next.Request (request_of size h body)) next.More))
            ≡ cond due (Some continue) (cond whole (Some (request (message_at s.bytes size h body))) None)
        by_test true whole = refl
        by_test false true = ap (λ (m : Message). Some (request m)) (message_of-request_of s.bytes size h body (front_reads s.place s.bytes size h body is))
        by_test false false = refl

-- ---- what an answer says of the bytes held

of_request : (s : Stream) (r : Request) → Decides s (next.Request r) → IsRequestIn s.bytes r
of_request s r x = of_front x.front x.is_front x.answer_is
  where
    of_front : (f : Front) → IsFront s.place s.bytes f → next.Request r ≡ next_of (length s.bytes) s.continued f → IsRequestIn s.bytes r
    of_front waits at is = absurd (cc)
    of_front (fails f) at is = absurd (cc)
    of_front (heads size h body) at is = by_test (expects_continue h.minor (fields_of h) body && not s.continued) (leb (size + body) (length s.bytes)) refl is
      where
        by_test : (due whole : Bool) → leb (size + body) (length s.bytes) ≡ whole
            → next.Request r ≡ cond due next.Continue (cond whole (next.Request (request_of size h body)) next.More) → IsRequestIn s.bytes r
        by_test true whole at' is = absurd (cc)
        by_test false true at' is =
            let same : r ≡ request_of size h body = cc in
            let fits : size + body ≤ length s.bytes = grind (arith, nat_tests) in
            subst (IsRequestIn s.bytes) (sym same) (request_lies s.bytes size h body fits (front_reads s.place s.bytes size h body at))
        by_test false false at' is = absurd (cc)

open_is_short : (bytes : List ℕ) → head_state bytes ≡ open_head → length bytes < 16384
open_is_short bytes is =
    elim (cases_lt (length bytes) 16384) [
      | inl short ↦ short
      | inr long ↦ absurd (never (state_of_lines (lines_of (take 16384 bytes))) (sym (head_state-long bytes long) ∙ is))
    ]
  where
    never : (s : HeadState) → unless_open large s ≡ open_head → ⊥
    never open_head e = cc
    never crowded e = cc
    never large e = cc
    never (ended size) e = cc

waits_is_open : (place : ℕ) (bytes : List ℕ) → IsFront place bytes waits → head_state bytes ≡ open_head
waits_is_open place bytes = in_state (head_state bytes)
  where
    with_read : (n : ℕ) (k : RequestHead) (r : Result ℕ TheFault) → waits ≡ with_length n k r → ⊥
    with_read n k (Ok length) is = cc
    with_read n k (Err f) is = cc

    of_read : (n : ℕ) (read : Option RequestHead) → waits ≡ judged place n read → ⊥
    of_read n None is = cc
    of_read n (Some k) is = with_read n k (body_length place (fields_of k)) is

    in_state : (s : HeadState) → IsFrontIn place bytes s waits → s ≡ open_head
    in_state open_head is = refl
    in_state crowded is = absurd (cc)
    in_state large is = absurd (cc)
    in_state (ended n) is = absurd (of_read n is.0 is.2)

-- after `More` there is room
pub more_has_room : (s : Stream) → Decides s next.More → length s.bytes < MESSAGE_ROOM
more_has_room s x = of_front x.front x.is_front x.answer_is
  where
    of_front : (f : Front) → IsFront s.place s.bytes f → next.More ≡ next_of (length s.bytes) s.continued f → length s.bytes < MESSAGE_ROOM
    of_front waits at is = omega (arith, open_is_short s.bytes (waits_is_open s.place s.bytes at))
    of_front (fails f) at is = absurd (cc)
    of_front (heads size h body) at is = by_test (expects_continue h.minor (fields_of h) body && not s.continued) (leb (size + body) (length s.bytes)) refl is
      where
        by_test : (due whole : Bool) → leb (size + body) (length s.bytes) ≡ whole
            → next.More ≡ cond due next.Continue (cond whole (next.Request (request_of size h body)) next.More) → length s.bytes < MESSAGE_ROOM
        by_test true whole at' is = absurd (cc)
        by_test false true at' is = absurd (cc)
        by_test false false at' is =
            let over : length s.bytes < size + body = grind (arith, nat_tests) in
            omega (arith, over, IsFront-size s.place s.bytes size h body at, IsFront-body s.place s.bytes size h body at)

pub answer_in : (s : Stream) (answer : Next) → Decides s answer → IfRequest answer (IsRequestIn s.bytes)
answer_in s next.More x = tt
answer_in s next.Continue x = tt
answer_in s (next.Request r) x = of_request s r x
answer_in s (next.Fault f) x = tt

or_false : (b : Bool) → b || false ≡ b
or_false true = refl
or_false false = refl

or_true : (b : Bool) → b || true ≡ true
or_true true = refl
or_true false = refl

pub told_answer : (s : Stream) (known : Known) (answer : Next) → KnowsAll s.place s.bytes known → Decides s answer
    → WasTold s.place s.bytes (s.continued || is_continue answer) known (Some answer)
told_answer s known next.More knows x =
    (knows, subst (λ (c : Bool). FirstItem s.place s.bytes c false None) (sym (or_false s.continued)) (first_item s next.More x))
told_answer s known next.Continue knows x = tt
told_answer s known (next.Request r) knows x = (
  (of_request s r x).body_in_range,
  subst (λ (c : Bool). FirstItem s.place s.bytes c false (Some (request (message_of s.bytes r)))) (sym (or_false s.continued)) (first_item s (next.Request r) x),
)
told_answer s known (next.Fault f) knows x = tt

-- ---- how the answers add up

same_continued : (s : Stream) (more : List ℕ) (e : Bool) (items : List Item) → AreItems s.place (s.bytes ++ more) (s.continued || false) e items
    → AreItems s.place (s.bytes ++ more) s.continued e items
same_continued s more e items = subst (λ (c : Bool). AreItems s.place (s.bytes ++ more) c e items) (or_false s.continued)

pub adds_answer : (s : Stream) (answer : Next) → Decides s answer → AddsAnswer s answer (answered s answer)
adds_answer s next.More x = λ more e items later. same_continued s more e items later
adds_answer s next.Continue x = λ more e items later. (
  FirstItem-stays s.place s.bytes more s.continued e continue (first_item s next.Continue x),
  subst (λ (c : Bool). AreItems s.place (s.bytes ++ more) c e items) (or_true s.continued) later,
)
adds_answer s (next.Request r) x = λ more e items later. same_continued s more e items later
adds_answer s (next.Fault f) x = λ more e. (FirstItem-stays s.place s.bytes more s.continued e (fault f) (first_item s (next.Fault f) x), refl)

pub adds_request : (s : Stream) (r : Request) → r.body.end ≤ length s.bytes → FirstItem s.place s.bytes s.continued false (Some (request (message_of s.bytes r)))
    → AddsRequest s r (dropped s r)
adds_request s r fits first = λ more e items later. (
  FirstItem-stays s.place s.bytes more s.continued e (request (message_of s.bytes r)) first,
  subst (λ (b : List ℕ). AreAfter r.close items (AreItems (s.place + r.body.end) b false e items)) (sym (drop-append-le r.body.end s.bytes more fits)) later,
)

-- ---- the end of the input

-- a head that has ended is no empty line
heads_not_empty : (place : ℕ) (bytes : List ℕ) (size : ℕ) (h : RequestHead) (body : ℕ) → IsFront place bytes (heads size h body) → is_only_empty_lines bytes ≡ false
heads_not_empty place bytes size h body = in_state (head_state bytes) refl
  where
    in_state : (s : HeadState) → head_state bytes ≡ s → IsFrontIn place bytes s (heads size h body) → is_only_empty_lines bytes ≡ false
    in_state open_head at is = absurd (cc)
    in_state crowded at is = absurd (cc)
    in_state large at is = absurd (cc)
    in_state (ended n) at is =
        let later = lines_of-stays (take 16384 bytes) (drop 16384 bytes) in
        let lines = ap lines_of (sym (take-append-drop 16384 bytes)) ∙ later.1 in
        let front = ended_not_empty (lines_of (take 16384 bytes)) 0 n (state_on-zero (lines_of (take 16384 bytes)) ∙ head_state-ended bytes n at) in
        let all : list_all is_empty_line (lines_of bytes) ≡ false =
        ap (list_all is_empty_line) lines ∙ list_all-append is_empty_line (lines_of (take 16384 bytes)) later.0
        ∙ ap (λ (b : Bool). b && list_all is_empty_line later.0) front in
        ap (λ (b : Bool). b && eqb (size_of (lines_of bytes)) (length bytes)) all

pub blank_is : (place : ℕ) (bytes : List ℕ) (c : Bool) (known : Known) → KnowsAll place bytes known → FirstItem place bytes c false None
    → is_blank known (length bytes) ≡ is_only_empty_lines bytes
blank_is place bytes c (Lines scan) knows none =
    let known = knows.0 in
    let no_feed = subst (λ (n : ℕ). (k : ℕ) → scan.line ≤ k → k < n → get_or bytes k 0 ≢ 10) knows.1 known.no_feed in
    let lines = lines_of-rest bytes scan.line (omega (arith, known.ordered, known.in_range)) no_feed known.whole ∙ append-nil (lines_of (take scan.line bytes)) in
    sym (ap (λ (l : List (List ℕ)). list_all is_empty_line l && eqb (size_of l) (length bytes)) lines
    ∙ ap (λ (b : Bool). b && eqb (size_of (lines_of (take scan.line bytes))) (length bytes)) known.empty
    ∙ ap (λ (n : ℕ). eqb scan.count 0 && eqb n (length bytes)) known.whole)
blank_is place bytes c (Head head) knows none = sym (heads_not_empty place bytes knows.size knows.tree knows.body knows.is_front)
blank_is place bytes c (Fault f) knows none =
    let clash = FirstItem-unique place bytes c false None (Some (fault f)) none (record { front = fails f; is_front = knows; item_is = refl }) in absurd (cc)

-- at the end of the input a message is cut off
pub ends_cut : (place : ℕ) (bytes : List ℕ) (c : Bool) → FirstItem place bytes c false None → is_only_empty_lines bytes ≡ false
    → FirstItem place bytes c true (Some (fault (Truncated place)))
ends_cut place bytes c x more = record {
  front = x.front;
  is_front = x.is_front;
  item_is = of_front x.front x.item_is;
}
  where
    of_front : (f : Front) → None ≡ item_of place bytes c false f → Some (fault (Truncated place)) ≡ item_of place bytes c true f
    of_front waits is = rw more refl
    of_front (fails f) is = absurd (cc)
    of_front (heads size h body) is = by_test (expects_continue h.minor (fields_of h) body && not c) (leb (size + body) (length bytes)) is
      where
        by_test : (due whole : Bool) → None ≡ cond due (Some continue) (cond whole (Some (request (message_at bytes size h body))) None)
            → Some (fault (Truncated place)) ≡ cond due (Some continue) (cond whole (Some (request (message_at bytes size h body))) (Some (fault (Truncated place))))
        by_test true whole is = absurd (cc)
        by_test false true is = absurd (cc)
        by_test false false is = refl

-- ---- for the calls

pub told_kept : (place : ℕ) (bytes : List ℕ) (c : Bool) (known : Known) (last : Option Next) → WasTold place bytes c known (kept_answer last)
told_kept place bytes c known None = tt
told_kept place bytes c known (Some next.More) = tt
told_kept place bytes c known (Some next.Continue) = tt
told_kept place bytes c known (Some (next.Request r)) = tt
told_kept place bytes c known (Some (next.Fault f)) = tt

pub Knows-from_all : (place : ℕ) (bytes : List ℕ) (known : Known) → KnowsAll place bytes known → Knows place bytes known
Knows-from_all place bytes (Lines scan) is = is.0
Knows-from_all place bytes (Head head) is = is
Knows-from_all place bytes (Fault f) is = is

pub next_room : (s t : Stream) (answer : Next) → Decides s answer → t ≡ answered s answer → answer ≡ next.More → 0 < room_of t
next_room s t answer x after is =
    let short = more_has_room s (subst (Decides s) is x) in
    let same : t.bytes ≡ s.bytes = ap (λ (u : Stream). u.bytes) after in
    rw same (omega arith)

pub next_in : (s t : Stream) (answer : Next) → Decides s answer → t ≡ answered s answer → IfRequest answer (IsRequestIn t.bytes)
next_in s t answer x after =
    subst (λ (b : List ℕ). IfRequest answer (IsRequestIn b)) (sym (ap (λ (u : Stream). u.bytes) after)) (answer_in s answer x)

pub next_adds : (s t : Stream) (answer : Next) → Decides s answer → t ≡ answered s answer → AddsAnswer s answer t
next_adds s t answer x after = subst (AddsAnswer s answer) (sym after) (adds_answer s answer x)

pub done_adds : (s t : Stream) (known : Known) (r : Request) → WasTold s.place s.bytes s.continued known s.last → request_in s.last ≡ Some r → t ≡ dropped s r
    → IfSome (request_in s.last) (λ q. AddsRequest s q t)
done_adds s t known r told asked after = of_last s.last told asked
  where
    of_last : (last : Option Next) → WasTold s.place s.bytes s.continued known last → request_in last ≡ Some r → IfSome (request_in last) (λ q. AddsRequest s q t)
    of_last None told asked = tt
    of_last (Some next.More) told asked = tt
    of_last (Some next.Continue) told asked = tt
    of_last (Some (next.Request q)) told asked =
        let same : q ≡ r = cc in
        subst (AddsRequest s q) (ap (λ (p : Request). dropped s p) same ∙ sym after) (adds_request s q told.0 told.1)
    of_last (Some (next.Fault f)) told asked = tt

pub told_more : (place : ℕ) (bytes : List ℕ) (c : Bool) (known : Known) (last : Option Next) → last ≡ Some next.More → WasTold place bytes c known last
    → KnowsAll place bytes known × FirstItem place bytes c false None
told_more place bytes c known last is told = subst (WasTold place bytes c known) is told

-- the end of the input, where the code finds only empty lines, or not
module _ (s : Stream) (known : Known) (held : ℕ) (all : held ≡ length s.bytes) (asked : s.last ≡ Some next.More) (told : WasTold s.place s.bytes s.continued known s.last) where
  end_told : KnowsAll s.place s.bytes known × FirstItem s.place s.bytes s.continued false None
  end_told = told_more s.place s.bytes s.continued known s.last asked told

  only : is_blank known held ≡ is_only_empty_lines s.bytes
  only = ap (is_blank known) all ∙ blank_is s.place s.bytes s.continued known end_told.0 end_told.1

  pub end_cut_answer : false ≡ is_blank known held → Some (Truncated s.place) ≡ cond (is_only_empty_lines s.bytes) None (Some (Truncated s.place))
  end_cut_answer more = let e : is_only_empty_lines s.bytes ≡ false = sym (more ∙ only) in rw e refl

  pub end_cut_items : false ≡ is_blank known held → ItemsFrom s [] true (fault (Truncated s.place) ∷ [])
  end_cut_items more = (
    subst (λ (b : List ℕ). FirstItem s.place b s.continued true (Some (fault (Truncated s.place)))) (sym (append-nil s.bytes))
        (ends_cut s.place s.bytes s.continued end_told.1 (sym (more ∙ only))),
    refl,
  )

-- ---- laws of the answers

pub Decides-unique : (s : Stream) (a b : Next) → Decides s a → Decides s b → a ≡ b
Decides-unique s a b x y =
    x.answer_is ∙ ap (next_of (length s.bytes) s.continued) (IsFront-unique s.place s.bytes x.front y.front x.is_front y.is_front) ∙ sym y.answer_is

pub Decides-request_stays : (s : Stream) (piece : List ℕ) (r : Request) → Decides s (next.Request r) → Decides (fed s piece) (next.Request r)
Decides-request_stays s piece r x = of_front x.front x.is_front x.answer_is
  where
    of_front : (f : Front) → IsFront s.place s.bytes f → next.Request r ≡ next_of (length s.bytes) s.continued f → Decides (fed s piece) (next.Request r)
    of_front waits at is = absurd (cc)
    of_front (fails f) at is = absurd (cc)
    of_front (heads size h body) at is = by_test (expects_continue h.minor (fields_of h) body && not s.continued) refl (leb (size + body) (length s.bytes)) refl is
      where
        by_test : (due : Bool) → (expects_continue h.minor (fields_of h) body && not s.continued) ≡ due → (whole : Bool) → leb (size + body) (length s.bytes) ≡ whole
            → next.Request r ≡ cond due next.Continue (cond whole (next.Request (request_of size h body)) next.More) → Decides (fed s piece) (next.Request r)
        by_test true at' whole at'' is = absurd (cc)
        by_test false at' true at'' is =
            let still : leb (size + body) (length (s.bytes ++ piece)) ≡ true = grind (arith, nat_tests, length-append s.bytes piece) in
            record {
              front = heads size h body;
              is_front = IsFront-stays s.place s.bytes piece (heads size h body) (λ e. cc) at;
              answer_is = rw (at', still) is;
            }
        by_test false at' false at'' is = absurd (cc)

pub Decides-continue_once : (s : Stream) → s.continued ≡ true → ¬ (Decides s next.Continue)
Decides-continue_once s was x = of_front x.front x.answer_is
  where
    of_front : (f : Front) → next.Continue ≡ next_of (length s.bytes) s.continued f → ⊥
    of_front waits is = cc
    of_front (fails f) is = cc
    of_front (heads size h body) is = by_test (expects_continue h.minor (fields_of h) body) (leb (size + body) (length s.bytes)) s.continued was is
      where
        by_test : (expects whole continued : Bool) → continued ≡ true
            → next.Continue ≡ cond (expects && not continued) next.Continue (cond whole (next.Request (request_of size h body)) next.More) → ⊥
        by_test expects whole false was is = absurd (cc)
        by_test true true true was is = cc
        by_test true false true was is = cc
        by_test false true true was is = cc
        by_test false false true was is = cc
