-- A stream has a list of items.
use Rattle.std.proofs.Common.{◌≡◌, ℕ, ◌+◌, ◌-◌, ◌<◌, ◌≤◌, Bool, true, false, cond, not, ◌&&◌, leb, List, [], ◌∷◌, ◌++◌, length, take, drop, Option, Some, None, refl, sym, ap, ◌∙◌, subst, arith, length-append, length-drop}
use Rattle.std.proofs.lemmas.List.{take_rest, drop-drop}
use Rattle.std.proofs.lemmas.Bool.Decides.{nat_tests}
use Rattle.httparse.specs.Grammar.{RequestHead, print_blank}
use Rattle.cds_http.specs.declared.known.Known.{Known}
use Rattle.cds_http.specs.declared.known.Known.TheVariants.{Lines, Head, Fault}
use Rattle.cds_http.specs.declared.next.Fault.TheVariants.{Truncated}
use Rattle.cds_http.specs.Fields.{fields_of, expects_continue, closes}
use Rattle.cds_http.specs.Front.{waits, fails, heads, IsFront}
use Rattle.cds_http.specs.Items.{Message, message_at, Item, continue, request, fault, is_only_empty_lines, FirstItem, AreAfter, AreItems}
use Rattle.cds_http.specs.Known.{KnowsAll}
use Rattle.cds_http.specs.Totality.{HaveItems, passes, GoesOn}
use Rattle.cds_http.proofs.ItemLemmas.{IsFront-size}
use Rattle.cds_http.proofs.MessageLemmas.{front_reads, front_parts}

-- a whole message is the first item, and where it leaves the connection open the items behind it follow
with_message : (place : ℕ) (bytes : List ℕ) (c e : Bool) (m : Message) → FirstItem place bytes c e (Some (request m))
    → (m.close ≡ false → HaveItems (place + m.size) (drop m.size bytes) e) → (items : List Item) × AreItems place bytes c e items
with_message place bytes c e m first later = by_close m.close refl
  where
    by_close : (close : Bool) → m.close ≡ close → (items : List Item) × AreItems place bytes c e items
    by_close true is =
        (request m ∷ [], (first, subst (λ (b : Bool). AreAfter b [] (AreItems (place + m.size) (drop m.size bytes) false e [])) (sym is) refl))
    by_close false is =
        let rest = later is in
        (request m ∷ rest.0, (first, subst (λ (b : Bool). AreAfter b rest.0 (AreItems (place + m.size) (drop m.size bytes) false e rest.0)) (sym is) rest.1))

not_again : (b : Bool) → b && not true ≡ false
not_again true = refl
not_again false = refl

-- bytes with a head at the front, where what follows its message has items
module _ (place : ℕ) (bytes : List ℕ) (e : Bool) (size : ℕ) (h : RequestHead) (body : ℕ) (is : IsFront place bytes (heads size h body))
    (later : size + body ≤ length bytes → closes h.minor (fields_of h) ≡ false → HaveItems (place + (size + body)) (drop (size + body) bytes) e) where
  not_due : (c : Bool) → (expects_continue h.minor (fields_of h) body && not c) ≡ false → (items : List Item) × AreItems place bytes c e items
  not_due c quiet = by_test (leb (size + body) (length bytes)) refl e refl
    where
      by_test : (whole : Bool) → leb (size + body) (length bytes) ≡ whole → (over : Bool) → e ≡ over → (items : List Item) × AreItems place bytes c e items
      by_test true at over same =
          with_message place bytes c e (message_at bytes size h body) (record { front = heads size h body; is_front = is; item_is = rw (quiet, at) refl })
          (λ open'. later (grind (arith, nat_tests)) open')
      by_test false at true same = (fault (Truncated place) ∷ [], (record { front = heads size h body; is_front = is; item_is = rw (quiet, at, same) refl }, refl))
      by_test false at false same = ([], record { front = heads size h body; is_front = is; item_is = rw (quiet, at, same) refl })

  head_items : (items : List Item) × AreItems place bytes false e items
  head_items = by_due (expects_continue h.minor (fields_of h) body && not false) refl
    where
      by_due : (due : Bool) → (expects_continue h.minor (fields_of h) body && not false) ≡ due → (items : List Item) × AreItems place bytes false e items
      by_due true at =
          let rest = not_due true (not_again (expects_continue h.minor (fields_of h) body)) in
          (continue ∷ rest.0, (record { front = heads size h body; is_front = is; item_is = rw at refl }, rest.1))
      by_due false at = not_due false at

fault_items : (place : ℕ) (bytes : List ℕ) (e : Bool) (f : _) → IsFront place bytes (fails f) → HaveItems place bytes e
fault_items place bytes e f is = (fault f ∷ [], (record { front = fails f; is_front = is; item_is = refl }, refl))

waiting_items : (place : ℕ) (bytes : List ℕ) (e : Bool) → IsFront place bytes waits → HaveItems place bytes e
waiting_items place bytes e is = by_test (e && not (is_only_empty_lines bytes)) refl
  where
    by_test : (cut : Bool) → (e && not (is_only_empty_lines bytes)) ≡ cut → HaveItems place bytes e
    by_test true at = (fault (Truncated place) ∷ [], (record { front = waits; is_front = is; item_is = rw at refl }, refl))
    by_test false at = ([], record { front = waits; is_front = is; item_is = rw at refl })

-- a head has bytes
head_some : (place : ℕ) (bytes : List ℕ) (size : ℕ) (h : RequestHead) (body : ℕ) → IsFront place bytes (heads size h body) → 0 < size
head_some place bytes size h body is =
    let parts = front_parts bytes size h (front_reads place bytes size h body is) in
    let line = h.method ++ 32 ∷ (h.target ++ 32 ∷ parts.0) in
    omega (
      arith,
      ap length parts.1,
      length-append (print_blank h.blank ++ line) (drop size bytes),
      length-append (print_blank h.blank) line,
      length-append h.method (32 ∷ (h.target ++ 32 ∷ parts.0)),
      length-drop size bytes,
      (IsFront-size place bytes size h body is).0,
    )

-- what is known of the front says how the items go on
pub goes_on : (place : ℕ) (bytes : List ℕ) (known : Known) → KnowsAll place bytes known → GoesOn place bytes (passes known (length bytes))
goes_on place bytes (Lines scan) knows = λ e. waiting_items place bytes e knows.2
goes_on place bytes (Fault f) knows = λ e. fault_items place bytes e f knows
goes_on place bytes (Head head) knows =
    rw (knows.head_is) (by_test (closes knows.tree.minor (fields_of knows.tree)) refl (leb (knows.size + knows.body) (length bytes)) refl)
  where
    by_test : (close : Bool) → closes knows.tree.minor (fields_of knows.tree) ≡ close → (whole : Bool) → leb (knows.size + knows.body) (length bytes) ≡ whole
        → GoesOn place bytes (cond close None (cond whole (Some (knows.size + knows.body)) None))
    by_test true is whole at = λ e. head_items place bytes e knows.size knows.tree knows.body knows.is_front (λ fits open'. absurd (cc))
    by_test false is true at = (
      omega (arith, head_some place bytes knows.size knows.tree knows.body knows.is_front),
      grind (arith, nat_tests),
      λ e rest. head_items place bytes e knows.size knows.tree knows.body knows.is_front (λ fits open'. rest),
    )
    by_test false is false at = λ e. head_items place bytes e knows.size knows.tree knows.body knows.is_front (λ fits open'. absurd (grind (arith, nat_tests)))

-- what is read behind a place of the stream says how the items go on from there
pub goes_on_from : (bytes : List ℕ) (at : ℕ) (known : Known) (passed : Option ℕ) → KnowsAll at (take (length bytes - at) (drop at bytes)) known
    → passed ≡ passes known (length (take (length bytes - at) (drop at bytes))) → GoesOn at (drop at bytes) passed
goes_on_from bytes at known passed knows is =
    subst (GoesOn at (drop at bytes)) (sym (is ∙ ap (λ (b : List ℕ). passes known (length b)) (take_rest bytes at)))
    (goes_on at (drop at bytes) known (subst (λ (b : List ℕ). KnowsAll at b known) (take_rest bytes at) knows))

-- one message further: the place grows within the bytes, and the items there still give those of the whole
abbrev pub IsFurther : List ℕ → Bool → ℕ → ℕ → Type 0
IsFurther bytes e at size =
    (at < at + size) × (at + size ≤ length bytes) × (HaveItems (at + size) (drop (at + size) bytes) e → HaveItems 0 bytes e)

pub one_further : (bytes : List ℕ) (at size : ℕ) (e : Bool) → at ≤ length bytes → GoesOn at (drop at bytes) (Some size) → (HaveItems at (drop at bytes) e → HaveItems 0 bytes e)
    → IsFurther bytes e at size
one_further bytes at size e low goes before = (
  omega (arith, goes.0),
  omega (arith, low, goes.1, length-drop at bytes),
  λ rest. before (goes.2 e (subst (λ (b : List ℕ). HaveItems (at + size) b e) (sym (drop-drop size at bytes)) rest)),
)
