-- What is decided of a stream stays decided, and there is one list of items.
use Rattle.std.proofs.Common.{◌≡◌, ◌≢◌, ℕ, ◌+◌, ◌≤◌, inl, inr, Bool, true, false, cond, not, ◌&&◌, leb, List, [], ◌∷◌, ◌++◌, length, take, drop, Option, Some, None, Result, Ok, Err, refl, sym, ap, ◌∙◌, subst, arith, append-nil, length-append, length-drop}
use Rattle.std.proofs.lemmas.List.{take-append-le, drop-append-le}
use Rattle.std.proofs.lemmas.Bool.Decides.{nat_tests}
use Rattle.httparse.specs.Grammar.{RequestHead}
use Rattle.httparse.proofs.GrammarLemmas.{request_unique}
use Rattle.cds_http.specs.declared.limits.TheConstants.{MOST_BODY_BYTES}
use Rattle.cds_http.specs.declared.next.Fault.{Fault}
use Rattle.cds_http.specs.declared.next.Fault.TheVariants.{Head, Truncated, LengthRequired, BodyTooLarge}
use Rattle.std.specs.Prelude.{codes}
use Rattle.std.specs.List.{list_any}
use Rattle.std.specs.Str.Parse.{digits_value}
use Rattle.http1.specs.Fields.{Header, is_named, values_named}
use Rattle.cds_http.specs.Lines.{HeadState, open_head, crowded, large, ended, head_state}
use Rattle.cds_http.specs.Fields.{fields_of, expects_continue, body_length, stated_length, is_length}
use Rattle.cds_http.specs.Front.{Front, waits, fails, heads, ReadsHead, with_length, judged, IsFrontIn, IsFront}
use Rattle.cds_http.specs.Items.{Message, message_at, Item, continue, request, fault, item_of, is_only_empty_lines, FirstItem, AreItems, AreAfter}
use Rattle.cds_http.proofs.StateLemmas.{head_state-stays, head_state-size}

-- ---- the front

reads_once : (bytes : List ℕ) (a b : Option RequestHead) → ReadsHead bytes a → ReadsHead bytes b → a ≡ b
reads_once bytes None None x y = refl
reads_once bytes None (Some k) x y = absurd (x k y)
reads_once bytes (Some h) None x y = absurd (y h x)
reads_once bytes (Some h) (Some k) x y = ap Some (request_unique bytes h k [] [] x y).0

-- one thing stands at the front
pub IsFront-unique : (place : ℕ) (bytes : List ℕ) (f g : Front) → IsFront place bytes f → IsFront place bytes g → f ≡ g
IsFront-unique place bytes f g = in_state (head_state bytes)
  where
    in_state : (s : HeadState) → IsFrontIn place bytes s f → IsFrontIn place bytes s g → f ≡ g
    in_state open_head x y = x ∙ sym y
    in_state crowded x y = x ∙ sym y
    in_state large x y = x ∙ sym y
    in_state (ended size) x y = x.2 ∙ ap (judged place size) (reads_once (take size bytes) x.0 y.0 x.1 y.1) ∙ sym y.2

-- what stands at the front stays there, however the bytes go on
pub IsFront-stays : (place : ℕ) (bytes more : List ℕ) (f : Front) → f ≢ waits → IsFront place bytes f → IsFront place (bytes ++ more) f
IsFront-stays place bytes more f decided is =
    elim (head_state-stays bytes more) [
      | inl same ↦ subst (λ (s : HeadState). IsFrontIn place (bytes ++ more) s f) (sym same) (in_state (head_state bytes) refl is)
      | inr still ↦ absurd (decided (subst (λ (s : HeadState). IsFrontIn place bytes s f) still is))
    ]
  where
    in_state : (s : HeadState) → head_state bytes ≡ s → IsFrontIn place bytes s f → IsFrontIn place (bytes ++ more) s f
    in_state open_head at is = is
    in_state crowded at is = is
    in_state large at is = is
    in_state (ended size) at is = (
      is.0,
      subst (λ (b : List ℕ). ReadsHead b is.0) (sym (take-append-le size bytes more (head_state-size bytes size at).0)) is.1,
      is.2,
    )

-- the head of a front ends within the bytes
pub IsFront-size : (place : ℕ) (bytes : List ℕ) (size : ℕ) (h : RequestHead) (body : ℕ) → IsFront place bytes (heads size h body) → (size ≤ length bytes) × (size ≤ 16384)
IsFront-size place bytes size h body = in_state (head_state bytes) refl
  where
    with_size : (n : ℕ) (k : RequestHead) (r : Result ℕ Fault) → heads size h body ≡ with_length n k r → size ≡ n
    with_size n k (Ok length) is = cc
    with_size n k (Err f) is = absurd (cc)

    of_read : (n : ℕ) (read : Option RequestHead) → heads size h body ≡ judged place n read → size ≡ n
    of_read n None is = absurd (cc)
    of_read n (Some k) is = with_size n k (body_length place (fields_of k)) is

    in_state : (s : HeadState) → head_state bytes ≡ s → IsFrontIn place bytes s (heads size h body) → (size ≤ length bytes) × (size ≤ 16384)
    in_state open_head at is = absurd (cc)
    in_state crowded at is = absurd (cc)
    in_state large at is = absurd (cc)
    in_state (ended n) at is =
        let e = of_read n is.0 is.2 in
        let b = head_state-size bytes n at in
        (omega (arith, e, b.0), omega (arith, e, b.1))

stated_fits : (place : ℕ) (values : List (List ℕ)) (body : ℕ) → stated_length place values ≡ Ok body → body ≤ MOST_BODY_BYTES
stated_fits place [] body is = let e : 0 ≡ body = cc in omega arith
stated_fits place (value ∷ []) body is = by_test (is_length value) (leb (digits_value 10 value) MOST_BODY_BYTES) refl is
  where
    by_test : (digits fits : Bool) → leb (digits_value 10 value) MOST_BODY_BYTES ≡ fits
        → cond digits (cond fits (Ok (digits_value 10 value)) (Err BodyTooLarge)) (Err (Head place)) ≡ Ok body → body ≤ MOST_BODY_BYTES
    by_test true true at is = let e : digits_value 10 value ≡ body = cc in grind (arith, nat_tests)
    by_test true false at is = absurd (cc)
    by_test false fits at is = absurd (cc)
stated_fits place (value ∷ other ∷ values) body is = absurd (cc)

body_fits : (place : ℕ) (fields : List Header) (body : ℕ) → body_length place fields ≡ Ok body → body ≤ MOST_BODY_BYTES
body_fits place fields body = by_test (list_any (is_named (codes "transfer-encoding")) fields)
  where
    by_test : (t : Bool) → cond t (Err (LengthRequired place)) (stated_length place (values_named (codes "content-length") fields)) ≡ Ok body → body ≤ MOST_BODY_BYTES
    by_test true is = absurd (cc)
    by_test false is = stated_fits place (values_named (codes "content-length") fields) body is

-- a body is no longer than one may be
pub IsFront-body : (place : ℕ) (bytes : List ℕ) (size : ℕ) (h : RequestHead) (body : ℕ) → IsFront place bytes (heads size h body) → body ≤ MOST_BODY_BYTES
IsFront-body place bytes size h body = in_state (head_state bytes)
  where
    with_body : (n : ℕ) (k : RequestHead) (r : Result ℕ Fault) → body_length place (fields_of k) ≡ r → heads size h body ≡ with_length n k r → body ≤ MOST_BODY_BYTES
    with_body n k (Ok length) at is = body_fits place (fields_of k) body (at ∙ ap Ok (let e : length ≡ body = cc in e))
    with_body n k (Err f) at is = absurd (cc)

    of_read : (n : ℕ) (read : Option RequestHead) → heads size h body ≡ judged place n read → body ≤ MOST_BODY_BYTES
    of_read n None is = absurd (cc)
    of_read n (Some k) is = with_body n k (body_length place (fields_of k)) refl is

    in_state : (s : HeadState) → IsFrontIn place bytes s (heads size h body) → body ≤ MOST_BODY_BYTES
    in_state open_head is = absurd (cc)
    in_state crowded is = absurd (cc)
    in_state large is = absurd (cc)
    in_state (ended n) is = of_read n is.0 is.2

-- ---- the first item

pub FirstItem-unique : (place : ℕ) (bytes : List ℕ) (c e : Bool) (a b : Option Item) → FirstItem place bytes c e a → FirstItem place bytes c e b → a ≡ b
FirstItem-unique place bytes c e a b x y =
    x.item_is ∙ ap (item_of place bytes c e) (IsFront-unique place bytes x.front y.front x.is_front y.is_front) ∙ sym y.item_is

message_at-stays : (bytes more : List ℕ) (size : ℕ) (h : RequestHead) (body : ℕ) → size + body ≤ length bytes → message_at (bytes ++ more) size h body ≡ message_at bytes size h body
message_at-stays bytes more size h body fits =
    let rest : drop size (bytes ++ more) ≡ drop size bytes ++ more = drop-append-le size bytes more (omega arith) in
    let taken : take body (drop size (bytes ++ more)) ≡ take body (drop size bytes) =
    ap (take body) rest ∙ take-append-le body (drop size bytes) more (omega (arith, length-drop size bytes)) in
    rw taken

-- an item that is decided stays, however the bytes go on and wherever they end
item_of-stays : (place : ℕ) (bytes more : List ℕ) (c e : Bool) (f : Front) (i : Item) → item_of place bytes c false f ≡ Some i → item_of place (bytes ++ more) c e f ≡ Some i
item_of-stays place bytes more c e waits i is = absurd (cc)
item_of-stays place bytes more c e (fails f) i is = is
item_of-stays place bytes more c e (heads size h body) i is =
    by_test (expects_continue h.minor (fields_of h) body && not c) (leb (size + body) (length bytes)) refl is
  where
    by_test : (due whole : Bool) → leb (size + body) (length bytes) ≡ whole
        → cond due (Some continue) (cond whole (Some (request (message_at bytes size h body))) None) ≡ Some i
        → cond due (Some continue) (cond (leb (size + body) (length (bytes ++ more))) (Some (request (message_at (bytes ++ more) size h body))) (cond e (Some (fault (Truncated place))) None)) ≡ Some i
    by_test true whole at is = is
    by_test false true at is =
        let fits : size + body ≤ length bytes = grind (arith, nat_tests) in
        let still : leb (size + body) (length (bytes ++ more)) ≡ true = grind (arith, nat_tests, length-append bytes more) in
        rw (still, message_at-stays bytes more size h body fits) is
    by_test false false at is = absurd (cc)

decided : (place : ℕ) (bytes : List ℕ) (c : Bool) (f : Front) (i : Item) → Some i ≡ item_of place bytes c false f → f ≢ waits
decided place bytes c waits i is e = cc
decided place bytes c (fails f) i is e = cc
decided place bytes c (heads size h body) i is e = cc

pub FirstItem-stays : (place : ℕ) (bytes more : List ℕ) (c e : Bool) (i : Item) → FirstItem place bytes c false (Some i) → FirstItem place (bytes ++ more) c e (Some i)
FirstItem-stays place bytes more c e i x = record {
  front = x.front;
  is_front = IsFront-stays place bytes more x.front (decided place bytes c x.front i x.item_is) x.is_front;
  item_is = sym (item_of-stays place bytes more c e x.front i (sym x.item_is));
}

-- a request that is whole lies within the bytes
pub request_fits : (place : ℕ) (bytes : List ℕ) (c e : Bool) (m : Message) → FirstItem place bytes c e (Some (request m)) → m.size ≤ length bytes
request_fits place bytes c e m x = of_front x.front x.item_is
  where
    of_front : (f : Front) → Some (request m) ≡ item_of place bytes c e f → m.size ≤ length bytes
    of_front waits is = by_test (e && not (is_only_empty_lines bytes)) is
      where
        by_test : (t : Bool) → Some (request m) ≡ cond t (Some (fault (Truncated place))) None → m.size ≤ length bytes
        by_test true is = absurd (cc)
        by_test false is = absurd (cc)
    of_front (fails f) is = absurd (cc)
    of_front (heads size h body) is = by_test (expects_continue h.minor (fields_of h) body && not c) (leb (size + body) (length bytes)) e refl is
      where
        by_test : (due whole e : Bool) → leb (size + body) (length bytes) ≡ whole
            → Some (request m) ≡ cond due (Some continue) (cond whole (Some (request (message_at bytes size h body))) (cond e (Some (fault (Truncated place))) None))
            → m.size ≤ length bytes
        by_test true whole e at is = absurd (cc)
        by_test false true e at is =
            let same : m ≡ message_at bytes size h body = cc in
            let n : m.size ≡ size + body = ap (λ (m : Message). m.size) same in
            grind (arith, nat_tests)
        by_test false false true at is = absurd (cc)
        by_test false false false at is = absurd (cc)

-- ---- the items

first_of : (i : Item) (xs : List Item) (place : ℕ) (bytes : List ℕ) (c e : Bool) → AreItems place bytes c e (i ∷ xs) → FirstItem place bytes c e (Some i)
first_of continue xs place bytes c e x = x.0
first_of (request m) xs place bytes c e x = x.0
first_of (fault f) xs place bytes c e x = x.0

both_after : (close : Bool) (xs ys : List Item) {A B : Type 0} → (A → B → xs ≡ ys) → AreAfter close xs A → AreAfter close ys B → xs ≡ ys
both_after true xs ys later x y = x ∙ sym y
both_after false xs ys later x y = later x y

-- a stream has one list of items
pub AreItems-unique : (xs ys : List Item) (place : ℕ) (bytes : List ℕ) (c e : Bool) → AreItems place bytes c e xs → AreItems place bytes c e ys → xs ≡ ys
AreItems-unique [] [] place bytes c e x y = refl
AreItems-unique [] (j ∷ ys) place bytes c e x y =
    let clash = FirstItem-unique place bytes c e None (Some j) x (first_of j ys place bytes c e y) in absurd (cc)
AreItems-unique (i ∷ xs) [] place bytes c e x y =
    let clash = FirstItem-unique place bytes c e (Some i) None (first_of i xs place bytes c e x) y in absurd (cc)
AreItems-unique (continue ∷ xs) (continue ∷ ys) place bytes c e x y = ap (λ (l : List Item). continue ∷ l) (AreItems-unique xs ys place bytes true e x.1 y.1)
AreItems-unique (request m ∷ xs) (request n ∷ ys) place bytes c e x y =
    let one = FirstItem-unique place bytes c e (Some (request m)) (Some (request n)) x.0 y.0 in
    let same : m ≡ n = cc in
    let second = subst (λ (k : Message). AreAfter k.close ys (AreItems (place + k.size) (drop k.size bytes) false e ys)) (sym same) y.1 in
    let rest : xs ≡ ys = both_after m.close xs ys (AreItems-unique xs ys (place + m.size) (drop m.size bytes) false e) x.1 second in
    cc
AreItems-unique (fault f ∷ xs) (fault g ∷ ys) place bytes c e x y =
    let one = FirstItem-unique place bytes c e (Some (fault f)) (Some (fault g)) x.0 y.0 in
    let rest : xs ≡ ys = x.1 ∙ sym y.1 in
    cc
AreItems-unique (continue ∷ xs) (request n ∷ ys) place bytes c e x y = let one = FirstItem-unique place bytes c e (Some continue) (Some (request n)) x.0 y.0 in absurd (cc)
AreItems-unique (continue ∷ xs) (fault g ∷ ys) place bytes c e x y = let one = FirstItem-unique place bytes c e (Some continue) (Some (fault g)) x.0 y.0 in absurd (cc)
AreItems-unique (request m ∷ xs) (continue ∷ ys) place bytes c e x y = let one = FirstItem-unique place bytes c e (Some (request m)) (Some continue) x.0 y.0 in absurd (cc)
AreItems-unique (request m ∷ xs) (fault g ∷ ys) place bytes c e x y = let one = FirstItem-unique place bytes c e (Some (request m)) (Some (fault g)) x.0 y.0 in absurd (cc)
AreItems-unique (fault f ∷ xs) (continue ∷ ys) place bytes c e x y = let one = FirstItem-unique place bytes c e (Some (fault f)) (Some continue) x.0 y.0 in absurd (cc)
AreItems-unique (fault f ∷ xs) (request n ∷ ys) place bytes c e x y = let one = FirstItem-unique place bytes c e (Some (fault f)) (Some (request n)) x.0 y.0 in absurd (cc)

-- the list goes on from another
abbrev GoesOn : List Item → List Item → Type 0
GoesOn xs ys = (zs : List Item) × (ys ≡ xs ++ zs)

cons_goes_on : (i : Item) (xs ys : List Item) → GoesOn xs ys → GoesOn (i ∷ xs) (i ∷ ys)
cons_goes_on i xs ys later = (later.0, ap (λ (l : List Item). i ∷ l) later.1)

after_goes_on : (close : Bool) (xs ys : List Item) {A B : Type 0} → (A → B → GoesOn xs ys) → AreAfter close xs A → AreAfter close ys B → GoesOn xs ys
after_goes_on true xs ys later x y = ([], y ∙ sym (append-nil xs ∙ x))
after_goes_on false xs ys later x y = later x y

same_first : (place : ℕ) (bytes more : List ℕ) (c e : Bool) (i : Item) (j : Option Item) → FirstItem place bytes c false (Some i) → FirstItem place (bytes ++ more) c e j → Some i ≡ j
same_first place bytes more c e i j x y = FirstItem-unique place (bytes ++ more) c e (Some i) j (FirstItem-stays place bytes more c e i x) y

-- what is decided of a stream stays decided, however it goes on and wherever it ends
pub AreItems-stays : (xs ys : List Item) (place : ℕ) (bytes more : List ℕ) (c e : Bool) → AreItems place bytes c false xs → AreItems place (bytes ++ more) c e ys → GoesOn xs ys
AreItems-stays [] ys place bytes more c e x y = (ys, refl)
AreItems-stays (i ∷ xs) [] place bytes more c e x y = let one = same_first place bytes more c e i None (first_of i xs place bytes c false x) y in absurd (cc)
AreItems-stays (continue ∷ xs) (continue ∷ ys) place bytes more c e x y = cons_goes_on continue xs ys (AreItems-stays xs ys place bytes more true e x.1 y.1)
AreItems-stays (request m ∷ xs) (request n ∷ ys) place bytes more c e x y =
    let one = same_first place bytes more c e (request m) (Some (request n)) x.0 y.0 in
    let same : m ≡ n = cc in
    let rest : drop m.size (bytes ++ more) ≡ drop m.size bytes ++ more = drop-append-le m.size bytes more (request_fits place bytes c false m x.0) in
    let second = subst (λ (k : Message). AreAfter k.close ys (AreItems (place + k.size) (drop k.size (bytes ++ more)) false e ys)) (sym same) y.1 in
    let third = subst (λ (b : List ℕ). AreAfter m.close ys (AreItems (place + m.size) b false e ys)) rest second in
    let later = after_goes_on m.close xs ys (AreItems-stays xs ys (place + m.size) (drop m.size bytes) more false e) x.1 third in
    (later.0, let all = later.1 in cc)
AreItems-stays (fault f ∷ xs) (fault g ∷ ys) place bytes more c e x y =
    let one = same_first place bytes more c e (fault f) (Some (fault g)) x.0 y.0 in
    let none = x.1 in
    let none' = y.1 in
    ([], let back = append-nil (fault f ∷ xs) in cc)
AreItems-stays (continue ∷ xs) (request n ∷ ys) place bytes more c e x y = let one = same_first place bytes more c e continue (Some (request n)) x.0 y.0 in absurd (cc)
AreItems-stays (continue ∷ xs) (fault g ∷ ys) place bytes more c e x y = let one = same_first place bytes more c e continue (Some (fault g)) x.0 y.0 in absurd (cc)
AreItems-stays (request m ∷ xs) (continue ∷ ys) place bytes more c e x y = let one = same_first place bytes more c e (request m) (Some continue) x.0 y.0 in absurd (cc)
AreItems-stays (request m ∷ xs) (fault g ∷ ys) place bytes more c e x y = let one = same_first place bytes more c e (request m) (Some (fault g)) x.0 y.0 in absurd (cc)
AreItems-stays (fault f ∷ xs) (continue ∷ ys) place bytes more c e x y = let one = same_first place bytes more c e (fault f) (Some continue) x.0 y.0 in absurd (cc)
AreItems-stays (fault f ∷ xs) (request n ∷ ys) place bytes more c e x y = let one = same_first place bytes more c e (fault f) (Some (request n)) x.0 y.0 in absurd (cc)
