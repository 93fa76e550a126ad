-- The names that an object states with its numbers: those of its fields, which rise in byte order.
use Rattle.std.proofs.Common.{rules, ◌≡◌, ℕ, Bool, true, false, List, [], ◌∷◌, ◌++◌, All, map, Option, Some, None, Result, Ok, String, Global, ok_or, string_bytes, Less, refl, ap, ◌∙◌, if◌then◌else◌}
use Rattle.std.proofs.lemmas.List.{map-append, append_assoc, append-nil}
use Rattle.std.proofs.lemmas.List.Elements.{All-map, All-nil, All-push}
use Rattle.std.specs.List.{AllByRecursion}
use Rattle.std.specs.List.Sorted.{IsStrictlySortedBy}
use Rattle.std.specs.Map.{keys_of}
use Rattle.std.specs.String.{string_cmp}
use Rattle.cds_base.specs.Answers.{◌>>=◌}
use Rattle.cds_base.specs.NameText.{is_name, IsName}
use Rattle.cds_base.specs.Named.{byte_cmp, AreRising}
use Rattle.cds_fields.specs.Datum.{Datum}
use Rattle.cds_fields.specs.Refusals.{Refusals}
use Rattle.cds_fields.specs.Section.{each_named}
use Rattle.cds_fields.specs.Seen.{fields_seen}

-- what comes of a field that isn't refused: its name is a Name, and its value is read
taken : {X Y E : Type 0} (b : Bool) (name : List ℕ) (read : Option X) (first second : E) (go : List ℕ → X → Result Y E) (y : Y)
    → (ok_or (if b then Some name else None) first >>= λ n. ok_or read second >>= λ x. go n x) ≡ Ok y
    → (b ≡ true) × ((x : X) × (go name x ≡ Ok y))
taken true name (Some x) first second go y e = (refl, (x, e))
taken true name None first second go y e = absurd cc
taken false name read first second go y e = absurd cc

-- a key below others is below them as bytes
below-all : {V : Type 0} (shown : V → Datum) (key : String Global) (es : List (String Global × V))
    → AllByRecursion (λ k. string_cmp key k ≡ Less) (keys_of es)
    → AllByRecursion (λ name. byte_cmp (string_bytes key) name ≡ Less) (map (λ f. f.0) (fields_seen shown es))
below-all shown key [] h = h
below-all shown key (e ∷ es) h = (h.0, below-all shown key es h.1)

-- where the keys of a map rise, the names of its fields do
names-rising : {V : Type 0} (shown : V → Datum) (es : List (String Global × V)) → IsStrictlySortedBy string_cmp (keys_of es)
    → AreRising (map (λ f. f.0) (fields_seen shown es))
unfolding IsStrictlySortedBy
names-rising shown [] h = h
names-rising shown (e ∷ es) h = (below-all shown e.0 es h.0, names-rising shown es h.1)

module _ {X E : Type 0} (reads : Datum → Option X) (front : List ℕ) (told : Refusals E) where
  done_again : (done stated : List (List ℕ × X)) → each_named reads front told done [] ≡ Ok stated → stated ≡ done
  unfolding each_named
  done_again done stated e = cc

  -- the names that are stated are those before, and then those of the fields
  names-stated : (done : List (List ℕ × X)) (fields : List (List ℕ × Datum)) (stated : List (List ℕ × X))
      → each_named reads front told done fields ≡ Ok stated
      → map (λ n. n.0) stated ≡ map (λ n. n.0) done ++ map (λ f. f.0) fields
  unfolding each_named
  names-stated done [] stated e = rw (done_again done stated e, append-nil (map (λ n. n.0) done))
  names-stated done (f ∷ fields) stated e =
      let t = taken (is_name f.0) f.0 (reads f.1) _ _ (λ n x. each_named reads front told (done ++ (n, x) ∷ []) fields) stated e in
      names-stated (done ++ (f.0, t.1.0) ∷ []) fields stated t.1.1
      ∙ ap (λ names. names ++ map (λ f. f.0) fields) (map-append (λ n. n.0) done ((f.0, t.1.0) ∷ []))
      ∙ append_assoc (map (λ n. n.0) done) (f.0 ∷ []) (map (λ f. f.0) fields)

  -- each of them is a Name, where those before are
  all-names : (done : List (List ℕ × X)) (fields : List (List ℕ × Datum)) (stated : List (List ℕ × X))
      → each_named reads front told done fields ≡ Ok stated → All (λ n. IsName n.0) done → All (λ n. IsName n.0) stated
  unfolding each_named
  all-names done [] stated e h = rw (done_again done stated e) h
  all-names done (f ∷ fields) stated e h =
      let t = taken (is_name f.0) f.0 (reads f.1) _ _ (λ n x. each_named reads front told (done ++ (n, x) ∷ []) fields) stated e in
      all-names (done ++ (f.0, t.1.0) ∷ []) fields stated t.1.1 (All-push (λ n. IsName n.0) done (f.0, t.1.0) h (search rules))

  -- so of all that is stated the names are Names
  pub named-names : (fields : List (List ℕ × Datum)) (stated : List (List ℕ × X))
      → each_named reads front told [] fields ≡ Ok stated → All IsName (map (λ n. n.0) stated)
  named-names fields stated e =
      All-map IsName (λ n. n.0) stated (all-names [] fields stated e (All-nil (λ n. IsName n.0)))

  -- and they rise where the keys of the map do
  pub named-rising : {V : Type 0} (shown : V → Datum) (es : List (String Global × V)) (stated : List (List ℕ × X))
      → IsStrictlySortedBy string_cmp (keys_of es)
      → each_named reads front told [] (fields_seen shown es) ≡ Ok stated → AreRising (map (λ n. n.0) stated)
  named-rising shown es stated h e = rw (names-stated [] (fields_seen shown es) stated e) (names-rising shown es h)
