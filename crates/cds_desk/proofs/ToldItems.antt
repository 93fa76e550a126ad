-- The items that a stream has told so far, as its bytes come.
use Rattle.std.proofs.Common.{◌≡◌, ℕ, ◌+◌, ◌≤◌, Bool, true, false, ◌||◌, List, [], ◌∷◌, ◌++◌, length, drop, Some, None, refl, sym, ap, ◌∙◌, subst, append_assoc, append-nil}
use Rattle.std.proofs.lemmas.List.{drop-append-le}
use Rattle.cds_http.specs.Items.{Item, continue, request, fault, FirstItem, AreItems, AreAfter, HasItems}
use Rattle.cds_http.specs.Stream.{Stream, new_stream, fed, answered, dropped, message_of, ItemsFrom, AddsAnswer, AddsRequest}
use Rattle.cds_http.specs.declared.next.Next.TheVariants as next
use Rattle.cds_http.specs.declared.next.Request.{Request}
use Rattle.cds_http.proofs.ItemLemmas.{FirstItem-stays, FirstItem-unique}

-- These bytes came and these items were told, and the stream stands there: whatever comes yet, the items of the whole
-- are those told and then those from here on, and they are no others.
pub record Told (bytes : List ℕ) (items : List Item) (m : Stream) : Type 0 where
  pub forward : (more : List ℕ) (ended : Bool) (rest : List Item) → ItemsFrom m more ended rest → HasItems (bytes ++ more) ended (items ++ rest)
  pub backward : (more : List ℕ) (ended : Bool) (all : List Item) → HasItems (bytes ++ more) ended all → (rest : List Item) × (all ≡ items ++ rest) × ItemsFrom m more ended rest

-- nothing came
pub told_nothing : Told [] [] new_stream
told_nothing = record {
  forward = λ more ended rest are. are;
  backward = λ more ended all are. (all, refl, are);
}

-- more came
pub told_fed : (bytes : List ℕ) (items : List Item) (m : Stream) (piece : List ℕ) → Told bytes items m → Told (bytes ++ piece) items (fed m piece)
told_fed bytes items m piece t = record {
  forward = λ more ended rest are.
      subst (λ (b : List ℕ). HasItems b ended (items ++ rest)) (sym (append_assoc bytes piece more))
      (t.forward (piece ++ more) ended rest (subst (λ (b : List ℕ). AreItems m.place b m.continued ended rest) (append_assoc m.bytes piece more) are));
  backward = λ more ended all are.
      let was = t.backward (piece ++ more) ended all (subst (λ (b : List ℕ). HasItems b ended all) (append_assoc bytes piece more) are) in
      (was.0, was.1, subst (λ (b : List ℕ). AreItems m.place b m.continued ended was.0) (sym (append_assoc m.bytes piece more)) was.2);
}

or_false : (b : Bool) → b || false ≡ b
or_false true = refl
or_false false = refl

or_true : (b : Bool) → b || true ≡ true
or_true true = refl
or_true false = refl

-- an answer that is no item changes nothing
same_answered : (bytes : List ℕ) (items : List Item) (m n : Stream) → n.bytes ≡ m.bytes → n.place ≡ m.place → n.continued ≡ m.continued → Told bytes items m → Told bytes items n
same_answered bytes items m n b p c t = record {
  forward = λ more ended rest are. t.forward more ended rest (rw (← b, ← p, ← c) are);
  backward = λ more ended all are.
      let was = t.backward more ended all are in
      (was.0, was.1, rw (b, p, c) was.2);
}

-- `More` was answered
pub told_more : (bytes : List ℕ) (items : List Item) (m : Stream) → Told bytes items m → Told bytes items (answered m next.More)
told_more bytes items m t = same_answered bytes items m (answered m next.More) refl refl (or_false m.continued) t

-- a request was answered
pub told_answer : (bytes : List ℕ) (items : List Item) (m : Stream) (r : Request) → Told bytes items m → Told bytes items (answered m (next.Request r))
told_answer bytes items m r t = same_answered bytes items m (answered m (next.Request r)) refl refl (or_false m.continued) t

-- the first item of what is decided is the first of all items
pub first_of : (place : ℕ) (bytes more : List ℕ) (c ended : Bool) (item : Item) (all : List Item) → FirstItem place bytes c false (Some item)
    → AreItems place (bytes ++ more) c ended all → (rest : List Item) × (all ≡ item ∷ rest)
first_of place bytes more c ended item [] first are =
    let clash = FirstItem-unique place (bytes ++ more) c ended (Some item) None (FirstItem-stays place bytes more c ended item first) are in absurd (cc)
first_of place bytes more c ended item (x ∷ rest) first are =
    let same = FirstItem-unique place (bytes ++ more) c ended (Some item) (Some x) (FirstItem-stays place bytes more c ended item first) (of_item x are) in
    (rest, let e : x ≡ item = cc in ap (λ (i : Item). i ∷ rest) e)
  where
    of_item : (x : Item) → AreItems place (bytes ++ more) c ended (x ∷ rest) → FirstItem place (bytes ++ more) c ended (Some x)
    of_item continue are = are.0
    of_item (request m) are = are.0
    of_item (fault f) are = are.0

-- `Continue` was told
pub told_continue : (bytes : List ℕ) (items : List Item) (m : Stream) → FirstItem m.place m.bytes m.continued false (Some continue)
    → AddsAnswer m next.Continue (answered m next.Continue) → Told bytes items m → Told bytes (items ++ continue ∷ []) (answered m next.Continue)
told_continue bytes items m first adds t = record {
  forward = λ more ended rest are.
      subst (HasItems (bytes ++ more) ended) (sym (append_assoc items (continue ∷ []) rest))
      (t.forward more ended (continue ∷ rest) (adds more ended rest are));
  backward = λ more ended all are.
      let was = t.backward more ended all are in
      let front = first_of m.place m.bytes more m.continued ended continue was.0 first was.2 in
      let after : AreItems m.place (m.bytes ++ more) m.continued ended (continue ∷ front.0) = subst (AreItems m.place (m.bytes ++ more) m.continued ended) front.1 was.2 in (
        front.0,
        was.1 ∙ ap (λ (l : List Item). items ++ l) front.1 ∙ sym (append_assoc items (continue ∷ []) front.0),
        subst (λ (c : Bool). AreItems m.place (m.bytes ++ more) c ended front.0) (sym (or_true m.continued)) after.1,
      );
}

-- a request that keeps the connection was dropped
pub told_request : (bytes : List ℕ) (items : List Item) (m : Stream) (r : Request) → r.close ≡ false → r.body.end ≤ length m.bytes
    → FirstItem m.place m.bytes m.continued false (Some (request (message_of m.bytes r))) → AddsRequest m r (dropped m r)
    → Told bytes items m → Told bytes (items ++ request (message_of m.bytes r) ∷ []) (dropped m r)
told_request bytes items m r keeps fits first adds t = record {
  forward = λ more ended rest are.
      subst (HasItems (bytes ++ more) ended) (sym (append_assoc items (request (message_of m.bytes r) ∷ []) rest))
      (t.forward more ended (request (message_of m.bytes r) ∷ rest)
      (adds more ended rest (subst (λ (c : Bool). AreAfter c rest (ItemsFrom (dropped m r) more ended rest)) (sym keeps) are)));
  backward = λ more ended all are.
      let was = t.backward more ended all are in
      let front = first_of m.place m.bytes more m.continued ended (request (message_of m.bytes r)) was.0 first was.2 in
      let after : AreItems m.place (m.bytes ++ more) m.continued ended (request (message_of m.bytes r) ∷ front.0) = subst (AreItems m.place (m.bytes ++ more) m.continued ended) front.1 was.2 in
      let behind : AreItems (m.place + r.body.end) (drop r.body.end (m.bytes ++ more)) false ended front.0 =
      subst (λ (c : Bool). AreAfter c front.0 (AreItems (m.place + r.body.end) (drop r.body.end (m.bytes ++ more)) false ended front.0)) keeps after.1 in (
        front.0,
        was.1 ∙ ap (λ (l : List Item). items ++ l) front.1 ∙ sym (append_assoc items (request (message_of m.bytes r) ∷ []) front.0),
        subst (λ (b : List ℕ). AreItems (m.place + r.body.end) b false ended front.0) (drop-append-le r.body.end m.bytes more fits) behind,
      );
}

-- ---- what that comes to

-- the items of the bytes that came, where the rest is these items
pub items_with : (bytes : List ℕ) (items : List Item) (m : Stream) (ended : Bool) (rest : List Item) → Told bytes items m → ItemsFrom m [] ended rest → HasItems bytes ended (items ++ rest)
items_with bytes items m ended rest t are = subst (λ (b : List ℕ). HasItems b ended (items ++ rest)) (append-nil bytes) (t.forward [] ended rest are)

-- the items of the bytes that came, where `More` was answered
pub items_so_far : (bytes : List ℕ) (items : List Item) (m : Stream) → Told bytes items m → FirstItem m.place m.bytes m.continued false None → HasItems bytes false items
items_so_far bytes items m t none =
    let here : ItemsFrom m [] false [] = subst (λ (b : List ℕ). FirstItem m.place b m.continued false None) (sym (append-nil m.bytes)) none in
    subst (HasItems bytes false) (append-nil items) (items_with bytes items m false [] t here)

-- the items begin with those told and the first that is decided
pub begins_with : (bytes : List ℕ) (items : List Item) (m : Stream) (item : Item) → Told bytes items m → FirstItem m.place m.bytes m.continued false (Some item)
    → (all : List Item) → HasItems bytes false all → (later : List Item) × (all ≡ (items ++ item ∷ []) ++ later)
begins_with bytes items m item t first all are =
    let was = t.backward [] false all (subst (λ (b : List ℕ). HasItems b false all) (sym (append-nil bytes)) are) in
    let front = first_of m.place m.bytes [] m.continued false item was.0 first was.2 in
    (front.0, was.1 ∙ ap (λ (l : List Item). items ++ l) front.1 ∙ sym (append_assoc items (item ∷ []) front.0))
