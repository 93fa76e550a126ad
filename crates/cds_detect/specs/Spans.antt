-- Where peaks lie in a list of classes. This project's own rule.
use Rattle.std.specs.Prelude.{ℕ, zero, suc, ◌+◌, ◌-◌, ◌&&◌, ◌||◌, Bool, true, false, not, List, [], ◌∷◌, ◌++◌, length, slice_index_or, nat_lt, if◌then◌else◌}
use Rattle.cds_base.specs.Search.{least}
use Rattle.cds_detect.specs.declared.class.Class.{Class}
use Rattle.cds_detect.specs.declared.class.Class.TheVariants.{Inhibited, Up, Down, Flat}

-- where a peak lies: the class at which its climb begins, and the class at which its fall ends, or their number where it ends with the classes
pub record Span : Type 0 where
  pub start : ℕ
  pub end : ℕ

abbrev pub is_up : Class → Bool
is_up Inhibited = false
is_up Up = true
is_up Down = false
is_up Flat = false

abbrev pub is_down : Class → Bool
is_down Inhibited = false
is_down Up = false
is_down Down = true
is_down Flat = false

abbrev pub is_flat : Class → Bool
is_flat Inhibited = false
is_flat Up = false
is_flat Down = false
is_flat Flat = true

abbrev pub is_inhibited_class : Class → Bool
is_inhibited_class Inhibited = true
is_inhibited_class Up = false
is_inhibited_class Down = false
is_inhibited_class Flat = false

-- the class of index k; behind the last one it is flat
abbrev pub class_at : List Class → ℕ → Class
class_at classes k = slice_index_or classes k Flat

-- the `count` classes before index k all lie after s and are flat
abbrev pub is_flat_before : List Class → ℕ → ℕ → ℕ → Bool
is_flat_before classes s zero k = true
is_flat_before classes s (suc count) zero = false
is_flat_before classes s (suc count) (suc k) = (nat_lt s k && is_flat (class_at classes k))
    && is_flat_before classes s count k

-- a climb from s ends at k: its class is down or inhibited, or it is flat and so are the `plateau` classes before it, all after s
abbrev pub ends_climb : List Class → ℕ → ℕ → ℕ → Bool
ends_climb classes plateau s k =
    (is_down (class_at classes k) || is_inhibited_class (class_at classes k))
    || (is_flat (class_at classes k) && is_flat_before classes s plateau k)

-- a climb begins at s: its class is up
abbrev pub begins_climb : List Class → ℕ → Bool
begins_climb classes s = is_up (class_at classes s)

-- a fall ends at e: its class isn't down
abbrev pub ends_fall : List Class → ℕ → Bool
ends_fall classes e = not (is_down (class_at classes e))

-- where the next climb begins: the least index from k on that begins one, or the number of classes
abbrev pub next_up : List Class → ℕ → ℕ
next_up classes k = least (begins_climb classes) k (length classes)

-- where the climb from s ends: the least index behind s that ends it, or the number of classes
abbrev pub climb : List Class → ℕ → ℕ → ℕ
climb classes plateau s = least (ends_climb classes plateau s) (s + 1) (length classes)

-- where the fall from k ends: the least index behind k that ends it, or the number of classes
abbrev pub fall : List Class → ℕ → ℕ
fall classes k = least (ends_fall classes) (k + 1) (length classes)

-- the peak whose climb begins at s, if that climb ends in a fall
abbrev pub span_from : List Class → ℕ → ℕ → List Span
span_from classes plateau s =
    let top = climb classes plateau s in
    if is_down (class_at classes top) then record { start = s; end = fall classes top } ∷ [] else []

-- where the search goes on behind the climb from s: where its fall ends, or where the climb does if it ends in none
abbrev pub behind : List Class → ℕ → ℕ → ℕ
behind classes plateau s =
    let top = climb classes plateau s in
    if is_down (class_at classes top) then fall classes top else top

-- the peaks from index k on; each turn goes on by at least one class, so as many turns as classes find them all
abbrev pub spans_from : ℕ → List Class → ℕ → ℕ → List Span
spans_from zero classes plateau k = []
spans_from (suc turns) classes plateau k =
    let s = next_up classes k in
    span_from classes plateau s ++ spans_from turns classes plateau (behind classes plateau s)

-- the peaks from index k on
unfoldable pub later_spans : List Class → ℕ → ℕ → List Span
later_spans classes plateau k = spans_from (length classes - k) classes plateau k

-- all peaks of a list of classes
abbrev pub spans : List Class → ℕ → List Span
spans classes plateau = spans_from (length classes) classes plateau 0
