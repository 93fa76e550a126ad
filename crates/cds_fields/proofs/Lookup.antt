-- What a map finds is the field of that name.
use Rattle.std.proofs.Common.{◌≡◌, ℕ, Bool, true, false, List, [], ◌∷◌, find, Option, Some, None, option_map, String, Global, Bor, string_bytes, nat_cmp, cond, bytes_eq, refl, ap, ◌∙◌}
use Rattle.std.proofs.lemmas.Map.Text.{is_eq-slice_cmp}
use Rattle.std.specs.Cmp.Lexicographic.{slice_cmp}
use Rattle.std.specs.Map.{lookup}
use Rattle.std.specs.BTreeMap.{is_at}
use Rattle.cds_fields.specs.Datum.{Datum}
use Rattle.cds_fields.specs.Section.{field_at}
use Rattle.cds_fields.specs.Seen.{fields_seen}

module _ {V : Type 0} (shown : V → Datum) where
  found_or : (b : Bool) (e : String Global × V) (fs : List (List ℕ × Datum)) (rest : Option V) (name : List ℕ) → option_map shown rest ≡ field_at name fs
      → option_map shown (cond b (Some e.1) rest) ≡ option_map (λ f. f.1) (cond b (Some (string_bytes e.0, shown e.1)) (find (λ f. bytes_eq name f.0) fs))
  found_or true e fs rest name h = refl
  found_or false e fs rest name h = h

  looked_up : (name : List ℕ) (es : List (String Global × V))
      → option_map shown (lookup (is_at (λ k. slice_cmp nat_cmp name (string_bytes k))) es) ≡ field_at name (fields_seen shown es)
  looked_up name [] = refl
  looked_up name (e ∷ es) = rw (is_eq-slice_cmp name (string_bytes e.0)) (found_or _ e _ _ name (looked_up name es))

  of_ref : (r : Option (Bor V)) → option_map (λ v. shown v.now) r ≡ option_map shown (option_map (λ v. v.now) r)
  of_ref None = refl
  of_ref (Some x) = refl

  -- what the look-up of a name answers
  pub field_at-found : (r : Option (Bor V)) (name : List ℕ) (es : List (String Global × V)) → option_map (λ v. v.now) r ≡ lookup (is_at (λ k. slice_cmp nat_cmp name (string_bytes k))) es
      → option_map (λ v. shown v.now) r ≡ field_at name (fields_seen shown es)
  field_at-found r name es is = of_ref r ∙ ap (option_map shown) is ∙ looked_up name es
