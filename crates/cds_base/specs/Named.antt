-- Entries under their names, in byte order of the names, each name at most once. This project's own form.
use Rattle.std.specs.Prelude.{◌≡◌, ℕ, ◌+◌, ◌<◌, ◌≤◌, List, ◌∷◌, ◌++◌, Option, All, length, take, drop}
use Rattle.std.specs.Cmp.Lexicographic.{slice_cmp}
use Rattle.std.specs.List.{filter, find, HoldsAt}
use Rattle.std.specs.List.Sorted.{IsStrictlySortedBy}
use Rattle.std.specs.Ordering.{nat_cmp, is_lt, is_gt}
use Rattle.std.specs.Str.{bytes_eq}
use Rattle.std.specs.declared.cmp.Ordering.{Ordering}
use Rattle.std.specs.declared.cmp.Ordering.TheVariants.{Less, Greater}
use Rattle.cds_base.specs.declared.named.Place.{Place}
use Rattle.cds_base.specs.declared.named.Place.TheVariants.{At, Gap}

-- how two names compare, byte by byte
abbrev pub byte_cmp : List ℕ → List ℕ → Ordering
byte_cmp = slice_cmp nat_cmp

-- names in byte order, none of them twice
abbrev pub AreRising : List (List ℕ) → Type 0
AreRising names = IsStrictlySortedBy byte_cmp names

-- the entry of a name, if there is one
abbrev pub named : {E : Type 0} → (E → List ℕ) → List E → List ℕ → Option E
named name_of entries name = find (λ e. bytes_eq (name_of e) name) entries

-- the entries with this one at the place of its name in byte order, instead of one of the same name
abbrev pub placed : {E : Type 0} → (E → List ℕ) → List E → E → List E
placed name_of entries entry =
    filter (λ e. is_lt (byte_cmp (name_of e) (name_of entry))) entries
    ++ entry ∷ filter (λ e. is_gt (byte_cmp (name_of e) (name_of entry))) entries

-- the entry at this place has this name; lesser names stand before it, and greater ones behind it
pub record StandsAt {E : Type 0} (name_of : E → List ℕ) (entries : List E) (name : List ℕ) (at : ℕ) : Type 0 where
  pub within : at < length entries
  pub here : HoldsAt (λ e. name_of e ≡ name) entries at
  pub lesser : All (λ e. byte_cmp (name_of e) name ≡ Less) (take at entries)
  pub greater : All (λ e. byte_cmp (name_of e) name ≡ Greater) (drop (at + 1) entries)

-- no entry has this name, and one of it would go to this place: lesser names stand before it, greater ones from it on
pub record IsGapAt {E : Type 0} (name_of : E → List ℕ) (entries : List E) (name : List ℕ) (at : ℕ) : Type 0 where
  pub within : at ≤ length entries
  pub lesser : All (λ e. byte_cmp (name_of e) name ≡ Less) (take at entries)
  pub greater : All (λ e. byte_cmp (name_of e) name ≡ Greater) (drop at entries)

-- the place or the gap of a name
abbrev pub IsPlaceOf : {E : Type 0} → (E → List ℕ) → List E → List ℕ → Place → Type 0
IsPlaceOf name_of entries name (At at) = StandsAt name_of entries name at
IsPlaceOf name_of entries name (Gap at) = IsGapAt name_of entries name at

-- a place needs no room, a gap needs room for one more entry
abbrev pub HasRoomFor : Place → ℕ → ℕ → Type 0
HasRoomFor (At at) len capacity = Unit {0}
HasRoomFor (Gap at) len capacity = len < capacity
