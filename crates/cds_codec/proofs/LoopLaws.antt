-- Reading items one after the other, as a loop does.
use Rattle.std.proofs.Common.{◌≡◌, ◌∙◌, ℕ, suc, ◌-◌, ◌+◌, ◌≤◌, ◌<◌, ℤ, List, [], ◌∷◌, ◌++◌, Some, None, refl, sym, ap}
use Rattle.std.proofs.Common.{append_assoc, arith}
use Rattle.std.proofs.lemmas.List.{append-nil}
use Rattle.cds_codec.specs.Reading.{Taken, ◌>>=◌, next_at, behind_at, items_at, with_front}

-- one value more before what is read
with_front-more : {A : Type 0} (front : List A) (x : A) (read : Taken (List A))
    → with_front front (read >>= λ y. Some (x ∷ y.0, y.1)) ≡ with_front (front ++ x ∷ []) read
with_front-more {A} front x (Some y) = ap (λ (xs : List A). Some (xs, y.1)) (simp append_assoc)
with_front-more {A} front x None = refl

-- nothing more is read
with_front-nothing : {A : Type 0} (front : List A) (bytes : List ℕ)
    → with_front front (Some ([], bytes)) ≡ Some (front, bytes)
with_front-nothing {A} front bytes = ap (λ (xs : List A). Some (xs, bytes)) (append-nil front)

-- one item more
pub items_at-more : {A : Type 0} (item : List ℕ → Taken A) (front : List A) (count i : ℕ) (x : A) (bytes after : List ℕ)
    (total : Taken (List A)) → i < count → item bytes ≡ Some (x, after)
    → with_front front (items_at item (count - i) bytes) ≡ total
    → with_front (front ++ x ∷ []) (items_at item (count - (i + 1)) after) ≡ total
unfolding items_at
items_at-more item front count i x bytes after total below here told =
    let turns : count - i ≡ suc (count - (i + 1)) = omega arith in
    let one : with_front front (items_at item (count - i) bytes)
    ≡ with_front (front ++ x ∷ []) (items_at item (count - (i + 1)) after) =
    rw (turns, here) (with_front-more front x (items_at item (count - (i + 1)) after)) in
    sym one ∙ told

-- none where one is wanted
pub items_at-none : {A : Type 0} (item : List ℕ → Taken A) (front : List A) (count i : ℕ) (bytes : List ℕ)
    (total : Taken (List A)) → i < count → item bytes ≡ None
    → with_front front (items_at item (count - i) bytes) ≡ total → None ≡ total
unfolding items_at
items_at-none item front count i bytes total below here told =
    let turns : count - i ≡ suc (count - (i + 1)) = omega arith in
    let one : with_front front (items_at item (count - i) bytes) ≡ None = rw (turns, here) refl in
    sym one ∙ told

-- and no more of them
pub items_at-last : {A : Type 0} (item : List ℕ → Taken A) (front : List A) (count i : ℕ) (bytes : List ℕ)
    (total : Taken (List A)) → count ≤ i
    → with_front front (items_at item (count - i) bytes) ≡ total → Some (front, bytes) ≡ total
unfolding items_at
items_at-last item front count i bytes total past told =
    let turns : count - i ≡ 0 = omega arith in
    let one : with_front front (items_at item (count - i) bytes) ≡ Some (front, bytes) =
    rw turns (with_front-nothing front bytes) in
    sym one ∙ told

-- one difference more
pub behind_at-more : (front : List ℤ) (count i : ℕ) (before sample : ℤ) (bytes after : List ℕ) (total : Taken (List ℤ))
    → i < count → next_at before bytes ≡ Some (sample, after)
    → with_front front (behind_at (count - i) before bytes) ≡ total
    → with_front (front ++ sample ∷ []) (behind_at (count - (i + 1)) sample after) ≡ total
unfolding behind_at
behind_at-more front count i before sample bytes after total below here told =
    let turns : count - i ≡ suc (count - (i + 1)) = omega arith in
    let one : with_front front (behind_at (count - i) before bytes)
    ≡ with_front (front ++ sample ∷ []) (behind_at (count - (i + 1)) sample after) =
    rw (turns, here) (with_front-more front sample (behind_at (count - (i + 1)) sample after)) in
    sym one ∙ told

-- none where one is wanted
pub behind_at-none : (front : List ℤ) (count i : ℕ) (before : ℤ) (bytes : List ℕ) (total : Taken (List ℤ)) → i < count
    → next_at before bytes ≡ None
    → with_front front (behind_at (count - i) before bytes) ≡ total → None ≡ total
unfolding behind_at
behind_at-none front count i before bytes total below here told =
    let turns : count - i ≡ suc (count - (i + 1)) = omega arith in
    let one : with_front front (behind_at (count - i) before bytes) ≡ None = rw (turns, here) refl in
    sym one ∙ told

-- and no more of them
pub behind_at-last : (front : List ℤ) (count i : ℕ) (before : ℤ) (bytes : List ℕ) (total : Taken (List ℤ)) → count ≤ i
    → with_front front (behind_at (count - i) before bytes) ≡ total → Some (front, bytes) ≡ total
unfolding behind_at
behind_at-last front count i before bytes total past told =
    let turns : count - i ≡ 0 = omega arith in
    let one : with_front front (behind_at (count - i) before bytes) ≡ Some (front, bytes) =
    rw turns (with_front-nothing front bytes) in
    sym one ∙ told
