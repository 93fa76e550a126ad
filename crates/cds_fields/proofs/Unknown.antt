-- The least unknown name of a section is the first unknown key of its map, since the keys ascend.
use Rattle.std.proofs.Common.{◌≡◌, ℕ, Bool, true, false, not, List, [], ◌∷◌, map, filter, Option, Some, option_map, String, Bor, Global, Less, Greater, string_bytes, nat_cmp, refl, ap, find, cond, ◌∙◌}
use Rattle.std.specs.Cmp.Lexicographic.{slice_cmp}
use Rattle.std.proofs.lemmas.Cmp.{nat_list_cmp_total}
use Rattle.std.specs.List.{list_any, AllByRecursion}
use Rattle.std.specs.List.Sorted.{IsStrictlySortedBy}
use Rattle.std.specs.Map.{keys_of}
use Rattle.std.specs.Ordering.{ordering_reverse}
use Rattle.std.specs.Str.{bytes_eq}
use Rattle.std.specs.String.{string_cmp}
use Rattle.cds_fields.specs.Datum.{Datum}
use Rattle.cds_fields.specs.Section.{lesser, least_name, unknown_names}
use Rattle.cds_fields.specs.Seen.{fields_seen}

-- the names of a section are the keys of its map
names-seen : {V : Type 0} (shown : V → Datum) (es : List (String Global × V)) → map (λ f. f.0) (fields_seen shown es) ≡ map string_bytes (keys_of es)
names-seen shown [] = refl
names-seen shown (e ∷ es) = ap (λ names. string_bytes e.0 ∷ names) (names-seen shown es)

above : (b : Bool) (k x : List ℕ) (first : Option (List ℕ)) → slice_cmp nat_cmp x k ≡ Greater → lesser k first ≡ k → lesser k (cond b (Some x) first) ≡ k
above true k x first order e = rw order
above false k x first order e = e

-- the first name that passes a test
abbrev first_of : (List ℕ → Bool) → List (List ℕ) → Option (List ℕ)
first_of p names = find p names

-- a key below all others stays the lesser one
lesser-first : (p : List ℕ → Bool) (k : String Global) (ks : List (String Global)) → AllByRecursion (λ y. string_cmp k y ≡ Less) ks
    → lesser (string_bytes k) (first_of p (map string_bytes ks)) ≡ string_bytes k
lesser-first p k [] h = refl
lesser-first p k (y ∷ ks) h =
    above (p (string_bytes y)) _ _ _ (nat_list_cmp_total.antisymm (string_bytes y) (string_bytes k) ∙ ap ordering_reverse h.0) (lesser-first p k ks h.1)

step : (b : Bool) (x : List ℕ) (names : List (List ℕ)) (first : Option (List ℕ)) → least_name names ≡ first → lesser x first ≡ x
    → least_name (cond b (x ∷ names) names) ≡ cond b (Some x) first
step true x names first e l = rw e (ap Some l)
step false x names first e l = e

-- where the keys ascend, the least that passes a test is the first
least_name-first : (p : List ℕ → Bool) (ks : List (String Global)) → IsStrictlySortedBy string_cmp ks
    → least_name (filter p (map string_bytes ks)) ≡ first_of p (map string_bytes ks)
unfolding IsStrictlySortedBy
least_name-first p [] h = refl
least_name-first p (k ∷ ks) h = step _ _ _ _ (least_name-first p ks h.1) (lesser-first p k ks h.0)

-- a name among words behind references
list_any-now : (name : List ℕ) (known : List (Bor (List ℕ))) → list_any (bytes_eq name) (map (λ k. k.now) known) ≡ list_any (λ word. bytes_eq name word.now) known
list_any-now name [] = refl
list_any-now name (k ∷ known) = rw (list_any-now name known)

next : (b : Bool) (k : String Global) (rest : Option (List ℕ)) (more : Option (String Global)) → rest ≡ option_map string_bytes more
    → cond b (Some (string_bytes k)) rest ≡ option_map string_bytes (cond b (Some k) more)
next true k rest more e = refl
next false k rest more e = e

-- the first unknown name is the first unknown key of the map
first_of-keys : (known : List (Bor (List ℕ))) (ks : List (String Global))
    → first_of (λ name. not (list_any (bytes_eq name) (map (λ k. k.now) known))) (map string_bytes ks)
    ≡ option_map string_bytes (find (λ name. not (list_any (λ word. bytes_eq (string_bytes name) word.now) known)) ks)
first_of-keys known [] = refl
first_of-keys known (k ∷ ks) = rw (list_any-now (string_bytes k) known) (next _ k _ _ (first_of-keys known ks))

-- the least unknown name is what a search of the map's keys finds
pub least_name-found : {V : Type 0} (shown : V → Datum) (known : List (Bor (List ℕ))) (es : List (String Global × V)) → IsStrictlySortedBy string_cmp (keys_of es)
    → least_name (unknown_names (map (λ k. k.now) known) (map (λ f. f.0) (fields_seen shown es)))
    ≡ option_map string_bytes (find (λ name. not (list_any (λ word. bytes_eq (string_bytes name) word.now) known)) (keys_of es))
least_name-found shown known es h = rw (names-seen shown es) (least_name-first _ (keys_of es) h ∙ first_of-keys known (keys_of es))
