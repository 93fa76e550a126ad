-- How far the raising of bases has come, and how the list of sequences is seen once one of them is changed.
use Rattle.std.proofs.Common.{◌≡◌, ◌∙◌, ℕ, zero, suc, ◌+◌, ◌<◌, Bool, List, [], ◌∷◌, length, get_or, set, take, map, Option, Some, None, option_map, unwrap_or, refl, sym, ap, ap₂, subst, arith}
use Rattle.std.proofs.lemmas.List.{length-map, map-set}
use Rattle.std.proofs.Math.ListN.{get_or-map}
use Rattle.cds_base.specs.Named.{named, placed, StandsAt, IsGapAt}
use Rattle.cds_base.proofs.NamedLaws.{map-placed, named-map, named-stands, named-gap, placed-stands}
use Rattle.cds_sign.specs.declared.sequence.Sequence.{Sequence}
use Rattle.cds_sign.specs.declared.signed.Signed.{Signed}
use Rattle.cds_book.specs.Held.{HeldSequence, held_name, sequence_shown}
use Rattle.cds_book.specs.Plan.{raised}
use Rattle.cds_book.specs.Raising.{raised_by}
use Rattle.cds_book.specs.Tables.{NamedSequence}
use Rattle.cds_book.proofs.SequenceLaws.{sequence_name}

-- raising as told for each is raising each
pub raised_by-map : (d : NamedSequence → Bool) (es : List NamedSequence) → raised_by (map d es) es ≡ map (λ e. raised (d e) e) es
raised_by-map d [] = refl
raised_by-map d (e ∷ es) = ap (λ xs. raised (d e) e ∷ xs) (raised_by-map d es)

-- sequences of equal names, contents and signatures are equal
pub sequence_eq : (n m : List ℕ) (s q : Sequence) (xs ys : List Signed) → n ≡ m → s ≡ q → xs ≡ ys
    → let a : NamedSequence = record { name = n; sequence = s; signed = xs } in let b : NamedSequence = record { name = m; sequence = q; signed = ys } in a ≡ b
sequence_eq n m s q xs ys e f g = cc

module _ (hs : List HeldSequence) (name : List ℕ) where
  -- what stands under a name, as it is seen
  seen_under : (found : Option HeldSequence) → named held_name hs name ≡ found → named sequence_name (map sequence_shown hs) name ≡ option_map sequence_shown found
  seen_under found is = named-map sequence_shown sequence_name hs name ∙ ap (option_map sequence_shown) is

  pub seen_at : (at : ℕ) (r : HeldSequence) → StandsAt held_name hs name at → r ≡ get_or hs at r → named sequence_name (map sequence_shown hs) name ≡ Some (sequence_shown r)
  seen_at at r stands read = seen_under (Some r) (named-stands held_name hs name at r stands ∙ ap Some (sym read))

  pub seen_gap : (at : ℕ) → IsGapAt held_name hs name at → named sequence_name (map sequence_shown hs) name ≡ None
  seen_gap at gap = seen_under None (named-gap held_name hs name at gap)

  -- another entry at the place of a name
  pub set_at : (at : ℕ) (r e : HeldSequence) → StandsAt held_name hs name at → r ≡ get_or hs at r → e.name ≡ r.name
      → map sequence_shown (set hs at e) ≡ placed sequence_name (map sequence_shown hs) (record { name = name; sequence = e.value.sequence; signed = e.value.signed.items })
  set_at at r e stands read named_same =
      let same_name : e.name ≡ name = named_same ∙ ap held_name read ∙ stands.here r in
      let here : StandsAt held_name hs e.name at = subst (λ n. StandsAt held_name hs n at) (sym same_name) stands in
      ap (map sequence_shown) (sym (placed-stands held_name hs e at here))
      ∙ map-placed sequence_shown sequence_name hs e
      ∙ ap (placed sequence_name (map sequence_shown hs)) (sequence_eq e.name name e.value.sequence e.value.sequence e.value.signed.items e.value.signed.items same_name refl refl)

  -- the signatures of what stands there
  pub signed_at : (at : ℕ) (r : HeldSequence) → StandsAt held_name hs name at → r ≡ get_or hs at r → r.value.signed.items ≡ unwrap_or (option_map (λ (e : NamedSequence). e.signed) (named sequence_name (map sequence_shown hs) name)) []
  signed_at at r stands read = sym (ap (λ (o : Option NamedSequence). unwrap_or (option_map (λ (e : NamedSequence). e.signed) o) []) (seen_at at r stands read))

  pub signed_gap : (at : ℕ) → IsGapAt held_name hs name at → unwrap_or (option_map (λ (e : NamedSequence). e.signed) (named sequence_name (map sequence_shown hs) name)) [] ≡ []
  signed_gap at gap = ap (λ (o : Option NamedSequence). unwrap_or (option_map (λ (e : NamedSequence). e.signed) o) []) (seen_gap at gap)

  -- another entry with these signatures
  pub placed_with : (s : Sequence) (xs ys : List Signed) → xs ≡ ys
      → placed sequence_name (map sequence_shown hs) (record { name = name; sequence = s; signed = xs }) ≡ placed sequence_name (map sequence_shown hs) (record { name = name; sequence = s; signed = ys })
  placed_with s xs ys same = ap (λ zs. placed sequence_name (map sequence_shown hs) (record { name = name; sequence = s; signed = zs })) same

  pub placed_as : (s q : Sequence) (xs ys : List Signed) → s ≡ q → xs ≡ ys
      → placed sequence_name (map sequence_shown hs) (record { name = name; sequence = s; signed = xs }) ≡ placed sequence_name (map sequence_shown hs) (record { name = name; sequence = q; signed = ys })
  placed_as s q xs ys one same = ap (placed sequence_name (map sequence_shown hs)) (sequence_eq name name s q xs ys refl one same)

-- raising one more, at its place
pub raised_by-more : (bs : List Bool) (es : List NamedSequence) (place : ℕ) (b g : Bool) (e : NamedSequence) → place < length bs → length bs ≡ length es → b ≡ get_or bs place g
    → raised_by (take (place + 1) bs) es ≡ set (raised_by (take place bs) es) place (raised b (get_or es place e))
raised_by-more [] es place b g e within many is = absurd (omega (arith, within))
raised_by-more (c ∷ bs) [] place b g e within many is = absurd (omega (arith, many))
raised_by-more (c ∷ bs) (x ∷ es) zero b g e within many is = ap (λ q. raised q x ∷ es) (sym is)
raised_by-more (c ∷ bs) (x ∷ es) (suc place) b g e within many is =
    let next : suc place + 1 ≡ suc (place + 1) = omega arith in
    rw next (ap (λ xs. raised c x ∷ xs) (raised_by-more bs es place b g e (omega (arith, within)) (omega (arith, many)) is))

-- those behind are as they were
pub raised_by-behind : (bs : List Bool) (es : List NamedSequence) (place : ℕ) (e : NamedSequence) → length bs ≡ length es → get_or (raised_by (take place bs) es) place e ≡ get_or es place e
raised_by-behind [] es zero e many = refl
raised_by-behind [] es (suc place) e many = refl
raised_by-behind (c ∷ bs) [] zero e many = refl
raised_by-behind (c ∷ bs) [] (suc place) e many = refl
raised_by-behind (c ∷ bs) (x ∷ es) zero e many = refl
raised_by-behind (c ∷ bs) (x ∷ es) (suc place) e many = raised_by-behind bs es place e (omega (arith, many))

-- one step of raising
module _ (rises : List Bool) (hs old : List HeldSequence) (place : ℕ) (b g : Bool) (r : HeldSequence)
    (so_far : map sequence_shown hs ≡ raised_by (take place rises) (map sequence_shown old)) (within : place < length rises) (many : length rises ≡ length old) (read : r ≡ get_or hs place r) where
  -- what is read was there
  pub read_old : sequence_shown r ≡ sequence_shown (get_or old place r)
  read_old =
      let long : length rises ≡ length (map sequence_shown old) = many ∙ sym (length-map old sequence_shown) in
      ap sequence_shown read ∙ sym (get_or-map sequence_shown hs place r) ∙ ap (λ (es : List NamedSequence). get_or es place (sequence_shown r)) so_far
      ∙ raised_by-behind rises (map sequence_shown old) place (sequence_shown r) long ∙ get_or-map sequence_shown old place r

  pub raise_step : (e : HeldSequence) → b ≡ get_or rises place g → sequence_shown e ≡ raised b (sequence_shown r) → map sequence_shown (set hs place e) ≡ raised_by (take (place + 1) rises) (map sequence_shown old)
  raise_step e is shown =
      let long : length rises ≡ length (map sequence_shown old) = many ∙ sym (length-map old sequence_shown) in
      let here : raised b (sequence_shown r) ≡ raised b (get_or (map sequence_shown old) place (sequence_shown r)) = ap (raised b) (read_old ∙ sym (get_or-map sequence_shown old place r)) in
      map-set sequence_shown hs place e
      ∙ ap₂ (λ (es : List NamedSequence) (x : NamedSequence). set es place x) so_far (shown ∙ here)
      ∙ sym (raised_by-more rises (map sequence_shown old) place b g (sequence_shown r) within long is)
