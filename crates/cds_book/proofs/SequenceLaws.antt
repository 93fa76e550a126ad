-- What the tables are once a sequence is put or signed: the counts.
use Rattle.std.proofs.Common.{◌≡◌, ◌∙◌, ℕ, ◌+◌, ◌-◌, ◌≤◌, false, not, List, [], ◌∷◌, ◌++◌, length, Option, Some, None, Ok, option_map, unwrap_or, refl, sym, ap, subst, arith}
use Rattle.std.specs.Prelude.{IsSome, is_some}
use Rattle.std.specs.List.{sum_by}
use Rattle.std.specs.Option.{option_map_or}
use Rattle.std.proofs.lemmas.List.{length-append}
use Rattle.std.proofs.lemmas.List.Sums.{sum_by-append}
use Rattle.cds_base.proofs.NamedLaws.{named-All, named-placed, sum_by-placed, length-placed}
use Rattle.cds_sign.specs.declared.command.Change.TheVariants as change
use Rattle.cds_sign.specs.declared.limits.TheConstants.{MOST_EDITION, MOST_SIGNATURES}
use Rattle.cds_sign.specs.declared.row.Row.{Row}
use Rattle.cds_sign.specs.declared.sequence.Sequence.{Sequence}
use Rattle.cds_sign.specs.declared.signed.Signed.{Signed}
use Rattle.cds_book.specs.Inputs.{bindings_of, inputs_in}
use Rattle.cds_book.specs.Kept.{IsTables, IsSequenceEntry, rows_in_all, signed_bytes_in_all}
use Rattle.cds_book.specs.Plan.{carried, counts_of, with_sequence, sequence_put, sequence_made, with_signature, signature}
use Rattle.cds_book.specs.Tables.{NamedSequence, TablesState, sequence_named, sequence_of, signatures_of}
use Rattle.cds_book.specs.declared.limits.TheConstants.{MOST_SEQUENCES, MOST_ROWS_IN_ALL, MOST_SIGNED_BYTES}
use Rattle.cds_book.proofs.LookLaws.{sequence_of-found, signatures_of-found}
use Rattle.std.specs.Prelude.{ok_or, if◌then◌else◌}
use Rattle.cds_base.specs.Answers.{◌>>=◌}
use Rattle.cds_book.specs.Judged.{sign_judged, sequence_judged, says_same, new_judged}
use Rattle.cds_book.specs.Tables.{signed_of}
use Rattle.cds_book.specs.declared.command.SignPlan.{SignPlan}
use Rattle.cds_book.specs.declared.command.SignPlan.TheVariants.{Kept}
use Rattle.cds_book.specs.declared.error.PlanError.TheVariants.{NoSequence}
use mir.Val.{bool_byte}

-- the name of an entry
abbrev pub sequence_name : NamedSequence → List ℕ
sequence_name e = e.name

-- how many bytes the texts have
abbrev pub bytes_signed : List Signed → ℕ
bytes_signed signed = sum_by (λ (s : Signed). length s.text) signed

module _ (t : TablesState) (name : List ℕ) (s : Sequence) (signed : List Signed) where
  pub sequence_named-with : sequence_named (with_sequence t name s signed) name ≡ Some (record { name = name; sequence = s; signed = signed })
  sequence_named-with = named-placed sequence_name t.sequences (record { name = name; sequence = s; signed = signed })

  pub sequence_of-with : sequence_of (with_sequence t name s signed) name ≡ Some s
  sequence_of-with = sequence_of-found (with_sequence t name s signed) name _ sequence_named-with

  pub signatures_of-with : signatures_of (with_sequence t name s signed) name ≡ signed
  signatures_of-with = signatures_of-found (with_sequence t name s signed) name _ sequence_named-with

-- the rows and the signatures of what stands under a name
rows_there : (t : TablesState) (name : List ℕ) → option_map_or (λ (e : NamedSequence). length e.sequence.rows) (sequence_named t name) 0 ≡ option_map_or (λ (s : Sequence). length s.rows) (sequence_of t name) 0
unfolding sequence_of
rows_there t name = by_found (sequence_named t name)
  where
    by_found : (found : Option NamedSequence) → option_map_or (λ (e : NamedSequence). length e.sequence.rows) found 0 ≡ option_map_or (λ (s : Sequence). length s.rows) (option_map (λ (e : NamedSequence). e.sequence) found) 0
    by_found None = refl
    by_found (Some e) = refl

bytes_there : (t : TablesState) (name : List ℕ) → option_map_or (λ (e : NamedSequence). bytes_signed e.signed) (sequence_named t name) 0 ≡ bytes_signed (signatures_of t name)
unfolding signatures_of
bytes_there t name = by_found (sequence_named t name)
  where
    by_found : (found : Option NamedSequence) → option_map_or (λ (e : NamedSequence). bytes_signed e.signed) found 0 ≡ bytes_signed (unwrap_or (option_map (λ (e : NamedSequence). e.signed) found) [])
    by_found None = refl
    by_found (Some e) = refl

one_there : (t : TablesState) (name : List ℕ) → option_map_or (λ (_ : NamedSequence). 1) (sequence_named t name) 0 + bool_byte (not (is_some (sequence_of t name))) ≡ 1
unfolding sequence_of
one_there t name = by_found (sequence_named t name)
  where
    by_found : (found : Option NamedSequence) → option_map_or (λ (_ : NamedSequence). 1) found 0 + bool_byte (not (is_some (option_map (λ (e : NamedSequence). e.sequence) found))) ≡ 1
    by_found None = refl
    by_found (Some e) = refl

module _ (t : TablesState) (kept : IsTables t) (name : List ℕ) (s : Sequence) (signed : List Signed) where
  -- how many sequences there are with one more or another
  pub sequences-with : length (with_sequence t name s signed).sequences ≡ length t.sequences + bool_byte (not (is_some (sequence_of t name)))
  sequences-with =
      let entry : NamedSequence = record { name = name; sequence = s; signed = signed } in
      let change = length-placed sequence_name t.sequences entry kept.sequences.names in
      omega (arith, change, one_there t name)

  -- how many rows
  pub rows-with : rows_in_all (with_sequence t name s signed).sequences + option_map_or (λ (s : Sequence). length s.rows) (sequence_of t name) 0 ≡ rows_in_all t.sequences + length s.rows
  rows-with =
      let entry : NamedSequence = record { name = name; sequence = s; signed = signed } in
      let change = sum_by-placed sequence_name (λ (e : NamedSequence). length e.sequence.rows) t.sequences entry kept.sequences.names in
      omega (arith, change, rows_there t name)

  -- and how many signed bytes
  pub bytes-with : signed_bytes_in_all (with_sequence t name s signed).sequences + bytes_signed (signatures_of t name) ≡ signed_bytes_in_all t.sequences + bytes_signed signed
  bytes-with =
      let entry : NamedSequence = record { name = name; sequence = s; signed = signed } in
      let change = sum_by-placed sequence_name (λ (e : NamedSequence). bytes_signed e.signed) t.sequences entry kept.sequences.names in
      omega (arith, change, bytes_there t name)

-- pairs of equal counts are equal
counts_eq : (a b c d : ℕ) (x y : ℕ) → a ≡ b → c ≡ d → let p : List (ℕ × ℕ) = (a, x) ∷ (c, y) ∷ [] in let q : List (ℕ × ℕ) = (b, x) ∷ (d, y) ∷ [] in p ≡ q
counts_eq a b c d x y e f = cc

-- the counts that a sequence raises
pub counts-sequence : (t : TablesState) → IsTables t → (name : List ℕ) (edition version : ℕ) (method : List ℕ) (standards : List (List ℕ)) (rows : List Row) (sequences new all many old : ℕ)
    → sequences ≡ length t.sequences → new ≡ bool_byte (not (is_some (sequence_of t name))) → all ≡ rows_in_all t.sequences → many ≡ length rows → old ≡ option_map_or (λ (s : Sequence). length s.rows) (sequence_of t name) 0
    → let p : List (ℕ × ℕ) = (sequences + new, MOST_SEQUENCES) ∷ (all + many - old, MOST_ROWS_IN_ALL) ∷ [] in p
    ≡ counts_of (change.Sequence name edition method version standards rows) (carried t (change.Sequence name edition method version standards rows))
unfolding sequence_made
counts-sequence t kept name edition version method standards rows sequences new all many old is_count is_new is_all is_many is_old =
    let s = sequence_put t name method version standards rows in
    let signed = signatures_of t name in
    let one : sequences + new ≡ length (with_sequence t name s signed).sequences = omega (arith, sequences-with t kept name s signed, is_count, is_new) in
    let two : all + many - old ≡ rows_in_all (with_sequence t name s signed).sequences = omega (arith, rows-with t kept name s signed, is_all, is_many, is_old) in
    counts_eq _ _ _ _ MOST_SEQUENCES MOST_ROWS_IN_ALL one two

-- no more rows are taken off than there are
pub rows_within : (t : TablesState) → IsTables t → (name : List ℕ) (rows : List Row) → option_map_or (λ (s : Sequence). length s.rows) (sequence_of t name) 0 ≤ rows_in_all t.sequences + length rows
rows_within t kept name rows = let is = rows-with t kept name (sequence_put t name [] 0 [] rows) [] in omega (arith, is)

-- the counts that a signature raises
pub counts-sign : (t : TablesState) → IsTables t → (sequence : List ℕ) (number basis moment : ℕ) (name meaning text : List ℕ) (signed : List Signed) (all many : ℕ)
    → IsSome (sequence_of t sequence) → signed ≡ signatures_of t sequence → all ≡ signed_bytes_in_all t.sequences → many ≡ length text
    → let p : List (ℕ × ℕ) = (length signed + 1, MOST_SIGNATURES) ∷ (all + many, MOST_SIGNED_BYTES) ∷ [] in p
    ≡ counts_of (change.Sign sequence number basis moment name meaning text) (carried t (change.Sign sequence number basis moment name meaning text))
counts-sign t kept sequence number basis moment name meaning text signed all many there are is_all is_many = by_found (sequence_of t sequence) refl there
  where
    by_found : (found : Option Sequence) → sequence_of t sequence ≡ found → IsSome found
        → let p : List (ℕ × ℕ) = (length signed + 1, MOST_SIGNATURES) ∷ (all + many, MOST_SIGNED_BYTES) ∷ [] in p
        ≡ counts_of (change.Sign sequence number basis moment name meaning text) (with_signature t sequence (signature number basis moment name meaning text) found)
    by_found None is some = cc
    by_found (Some s) is some =
        let made : Signed = signature number basis moment name meaning text (inputs_in (bindings_of t) s) in
        let after = signatures_of t sequence ++ made ∷ [] in
        let one : length signed + 1 ≡ length (signatures_of (with_sequence t sequence s after) sequence) =
        ap (λ (xs : List Signed). length xs + 1) are ∙ sym (ap length (signatures_of-with t sequence s after) ∙ length-append (signatures_of t sequence) (made ∷ [])) in
        let sums = sum_by-append (λ (x : Signed). length x.text) (signatures_of t sequence) (made ∷ []) in
        let bytes = bytes-with t kept sequence s after in
        let two : all + many ≡ signed_bytes_in_all (with_sequence t sequence s after).sequences = omega (arith, bytes, sums, is_all, is_many) in
        counts_eq _ _ _ _ MOST_SIGNATURES MOST_SIGNED_BYTES one two

-- a signature that isn't refused is one of a sequence that is there
pub sequence-signed : (t : TablesState) (sequence : List ℕ) (basis number : ℕ) (name meaning : List ℕ) (p : SignPlan) → sign_judged t sequence basis number name meaning ≡ Ok p → IsSome (sequence_of t sequence)
unfolding sign_judged sequence_judged
sequence-signed t sequence basis number name meaning p = by_found (sequence_of t sequence)
  where
    by_found : (found : Option Sequence) → (ok_or found (NoSequence sequence) >>= λ (s : Sequence). if option_map_or (says_same basis name meaning) (signed_of t sequence number) false then Ok (Kept number) else new_judged t sequence s.basis basis number) ≡ Ok p → IsSome found
    by_found None is = cc
    by_found (Some s) is = refl

-- the edition of a sequence that is there is at most 2^32
pub few_editions : (t : TablesState) → IsTables t → (name : List ℕ) (s : Sequence) → sequence_of t name ≡ Some s → s.edition ≤ MOST_EDITION + 1
unfolding sequence_of
few_editions t kept name s = by_found (sequence_named t name) refl
  where
    by_found : (found : Option NamedSequence) → sequence_named t name ≡ found → option_map (λ (e : NamedSequence). e.sequence) found ≡ Some s → s.edition ≤ MOST_EDITION + 1
    by_found None there is = cc
    by_found (Some e) there is =
        let one : e.sequence ≡ s = cc in
        subst (λ (q : Sequence). q.edition ≤ MOST_EDITION + 1) one (named-All sequence_name IsSequenceEntry t.sequences name e kept.sequences.each there).edition
