-- How many bytes a request takes.
use Rattle.std.proofs.Common.{◌≡◌, ℕ, zero, suc, ◌+◌, ◌<◌, Bool, true, false, ◌&&◌, not, cond, leb, List, [], ◌∷◌, ◌++◌, length, take, Option, Some, None, Result, Ok, Err, sym, ap, ◌∙◌, subst, length-append, arith}
use Rattle.httparse.specs.Grammar.{RequestHead, ReadsRequest, print_blank, print_end, print_version, print_section}
use Rattle.httparse.proofs.GrammarLemmas.{print_request-append}
use Rattle.cds_http.specs.declared.next.Fault.{Fault}
use Rattle.cds_http.specs.declared.next.Next.TheVariants as next
use Rattle.cds_http.specs.declared.next.Request.{Request}
use Rattle.cds_http.specs.Fields.{fields_of, expects_continue, body_length}
use Rattle.cds_http.specs.Front.{Front, waits, fails, heads, ReadsHead, with_length, judged as judged_front, IsFrontIn, IsFront}
use Rattle.cds_http.specs.Lines.{HeadState, open_head, crowded, large, ended, head_state}
use Rattle.cds_http.specs.Items.{Message, message_at, continue, request, item_of}
use Rattle.cds_http.specs.Stream.{Stream, message_of, TellsItem}

-- a request takes at least one byte
pub request_some : (m : Stream) (r : Request) → TellsItem m (next.Request r) → 0 < r.body.end
request_some m r x = of_front x.front x.is_front x.item_is
  where
    size_some : (bytes : List ℕ) (size : ℕ) (h : RequestHead) → ReadsRequest (take size bytes) h [] → 0 < size
    size_some bytes zero h reads =
        let parts = reads.1 ∙ print_request-append h [] in
        absurd (omega (
          arith,
          ap length parts,
          length-append (print_blank h.blank) (h.method ++ 32 ∷ (h.target ++ 32 ∷ (print_version h.minor ++ (print_end h.line_end ++ (print_section h.fields h.last ++ []))))),
          length-append h.method (32 ∷ (h.target ++ 32 ∷ (print_version h.minor ++ (print_end h.line_end ++ (print_section h.fields h.last ++ []))))),
        ))
    size_some bytes (suc size) h reads = omega arith

    of_read : (n : ℕ) (read : Option RequestHead) (size : ℕ) (h : RequestHead) (body : ℕ) → ReadsHead (take n m.bytes) read → heads size h body ≡ judged_front m.place n read → 0 < size
    of_read n None size h body reads is = absurd (cc)
    of_read n (Some k) size h body reads is = with_read (body_length m.place (fields_of k)) is
      where
        with_read : (l : Result ℕ Fault) → heads size h body ≡ with_length n k l → 0 < size
        with_read (Ok length) is = let e : size ≡ n = cc in subst (λ (z : ℕ). 0 < z) (sym e) (size_some m.bytes n k reads)
        with_read (Err f) is = absurd (cc)

    in_state : (s : HeadState) (size : ℕ) (h : RequestHead) (body : ℕ) → IsFrontIn m.place m.bytes s (heads size h body) → 0 < size
    in_state open_head size h body is = absurd (cc)
    in_state crowded size h body is = absurd (cc)
    in_state large size h body is = absurd (cc)
    in_state (ended n) size h body is = of_read n is.0 size h body is.1 is.2

    of_front : (f : Front) → IsFront m.place m.bytes f → Some (request (message_of m.bytes r)) ≡ item_of m.place m.bytes m.continued false f → 0 < r.body.end
    of_front waits at is = absurd (cc)
    of_front (fails f) at is = absurd (cc)
    of_front (heads size h body) at is = by_test (expects_continue h.minor (fields_of h) body && not m.continued) (leb (size + body) (length m.bytes)) is
      where
        by_test : (due whole : Bool)
            → Some (request (message_of m.bytes r)) ≡ cond due (Some continue) (cond whole (Some (request (message_at m.bytes size h body))) None) → 0 < r.body.end
        by_test true whole is = absurd (cc)
        by_test false false is = absurd (cc)
        by_test false true is =
            let same : message_of m.bytes r ≡ message_at m.bytes size h body = cc in
            let total : r.body.end ≡ size + body = ap (λ (x : Message). x.size) same in
            omega (arith, total, in_state (head_state m.bytes) size h body at)
