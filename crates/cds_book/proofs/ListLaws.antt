-- Parts of lists, as loops take them.
use Rattle.std.proofs.Common.{◌≡◌, ◌∙◌, ℕ, ◌+◌, ◌<◌, List, [], ◌∷◌, ◌++◌, length, get_or, take, map, Option, Some, None, option_map, refl, sym, ap, append-nil, arith}
use Rattle.std.specs.List.{filter_map}
use Rattle.std.specs.Prelude.{slice_get}
use Rattle.std.proofs.lemmas.List.{take_more, map-append}
use Rattle.std.proofs.lemmas.List.Elements.{filter_map-append}
use Rattle.std.proofs.lemmas.Option.{slice_get-get_or}

-- one more item, of which h gives something
pub filter_map_some : {X Y : Type 0} (h : X → Option Y) (xs : List X) (i : ℕ) (x : X) (y : Y) (ys : List Y) → i < length xs → x ≡ get_or xs i x → Some y ≡ h x → ys ≡ filter_map h (take i xs) → ys ++ y ∷ [] ≡ filter_map h (take (i + 1) xs)
filter_map_some h xs i x y ys within is gives so_far =
    rw (take_more xs i x within, ← is, filter_map-append h (take i xs) (x ∷ []), ← gives, so_far) refl

-- one more item, of which h gives nothing
pub filter_map_none : {X Y : Type 0} (h : X → Option Y) (xs : List X) (i : ℕ) (x : X) (ys : List Y) → i < length xs → x ≡ get_or xs i x → None ≡ h x → ys ≡ filter_map h (take i xs) → ys ≡ filter_map h (take (i + 1) xs)
filter_map_none h xs i x ys within is gives so_far =
    rw (take_more xs i x within, ← is, filter_map-append h (take i xs) (x ∷ []), ← gives) (so_far ∙ sym (append-nil (filter_map h (take i xs))))

-- one more item, by a part of it
pub map_seen : {X Y Z : Type 0} (seen : X → Y) (f : Y → Z) (xs : List X) (i : ℕ) (y : Y) (z : Z) (zs : List Z) → option_map seen (slice_get xs i) ≡ Some y → i < length xs → z ≡ f y → zs ≡ map (λ x. f (seen x)) (take i xs) → zs ++ z ∷ [] ≡ map (λ x. f (seen x)) (take (i + 1) xs)
map_seen seen f [] i y z zs found within is so_far = absurd (omega arith)
map_seen {X} seen f (d ∷ ds) i y z zs found within is so_far =
    let xs = d ∷ ds in
    let here : option_map seen (slice_get xs i) ≡ Some (seen (get_or xs i d)) = ap (option_map seen) (slice_get-get_or xs i d within) in
    let one : Some y ≡ Some (seen (get_or xs i d)) = sym found ∙ here in
    let same : y ≡ seen (get_or xs i d) = cc in
    rw (take_more xs i d within, map-append (λ x. f (seen x)) (take i xs) (get_or xs i d ∷ []), so_far, is, same) refl
