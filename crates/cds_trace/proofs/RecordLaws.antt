-- Laws of the records that are left of a text: reading one takes it from their front.
use Rattle.std.proofs.Common.{Bor, ◌≡◌, ◌∙◌, ◌⊎◌, ℕ, zero, suc, ◌+◌, ◌-◌, ◌<◌, Bool, true, false, List, [], ◌∷◌, Option, Some, None, length, add-one, arith, ap, sym, refl, inl, inr}
use Rattle.std.specs.Prelude.{IsSome}
use Rattle.csv.specs.Machine.{Read, ends_at_end, field_after, fields_after, is_end, next_record, step}
use Rattle.csv.specs.Reading.{Reached, ReadRecord, default_config, records_from, records_next}
use Rattle.csv.specs.declared.parser.Config.{Config}
use Rattle.csv.specs.declared.parser.State.{State}
use Rattle.csv.specs.declared.parser.State.TheVariants as st
use Rattle.csv.proofs.ReadFacts.{rows-end, rows-more}
use Rattle.cds_trace.specs.TraceText.{Fields}
use Rattle.cds_trace.specs.Rows.{BytesReader, IsReading, bytes_left, rows_left}

-- a record takes a byte of the text, or stands at its end
next_record-shorter : (cfg : Config) (s : State) (fields : Fields) (field xs : List ℕ) (q : Read) → next_record cfg s fields field xs ≡ Some q
    → (length q.2 < length xs) ⊎ ((q.1 ≡ st.StartRecord) × (q.2 ≡ []))
unfolding next_record
next_record-shorter cfg s fields field [] q e = at_end (ends_at_end s) refl
  where
    at_end : (b : Bool) → ends_at_end s ≡ b → (length q.2 < 0) ⊎ ((q.1 ≡ st.StartRecord) × (q.2 ≡ []))
    at_end true h = let known = rw h at e in inr (cc, cc)
    at_end false h = let known = rw h at e in cc
next_record-shorter cfg s fields field (c ∷ rest) q e = at_byte (is_end (step cfg s c).1) refl (λ h. next_record-shorter cfg (step cfg s c).0 _ _ rest q h)
  where
    at_byte : (b : Bool) → is_end (step cfg s c).1 ≡ b
        → (next_record cfg (step cfg s c).0 (fields_after (step cfg s c).1 fields field) (field_after (step cfg s c).1 c field) rest ≡ Some q
        → (length q.2 < length rest) ⊎ ((q.1 ≡ st.StartRecord) × (q.2 ≡ [])))
        → (length q.2 < length (c ∷ rest)) ⊎ ((q.1 ≡ st.StartRecord) × (q.2 ≡ []))
    at_byte true h more = let known = rw h at e in let same : q.2 ≡ rest = cc in inl (rw same (omega arith))
    at_byte false h more = elim (more (rw h at e)) [ inl less ↦ inl (omega arith) | inr done ↦ inr done ]

-- nothing is read behind the end of a text
pub records_from-end : (cfg : Config) (n : ℕ) → records_from cfg n st.StartRecord [] ≡ []
unfolding next_record records_from
records_from-end cfg zero = refl
records_from-end cfg (suc n) = refl

-- the same behind a record that ended the text
records_from-gone : (cfg : Config) (n m : ℕ) (q : Read) → q.1 ≡ st.StartRecord → q.2 ≡ [] → records_from cfg n q.1 q.2 ≡ records_from cfg m q.1 q.2
records_from-gone cfg n m q state rest = rw (state, rest) (records_from-end cfg n ∙ sym (records_from-end cfg m))

-- more turns than the text has bytes read no more records
records_from-suc : (cfg : Config) (n : ℕ) (s : State) (xs : List ℕ) → length xs < n → records_from cfg (suc n) s xs ≡ records_from cfg n s xs
unfolding records_from
records_from-suc cfg zero s xs h = absurd (omega arith)
records_from-suc cfg (suc n) s xs h = by (next_record cfg s [] [] xs) refl (λ t ys less. records_from-suc cfg n t ys less)
  where
    by : (o : Option Read) → next_record cfg s [] [] xs ≡ o
        → ((t : State) (ys : List ℕ) → length ys < n → records_from cfg (suc n) t ys ≡ records_from cfg n t ys)
        → records_next (records_from cfg (suc n)) o ≡ records_next (records_from cfg n) o
    by None e more = refl
    by (Some q) e more = ap (λ (rows : List Fields). q.0 ∷ rows) (elim (next_record-shorter cfg s [] [] xs q e) [
      | inl less ↦ more q.1 q.2 (omega arith)
      | inr done ↦ records_from-gone cfg (suc n) n q done.0 done.1
    ])

records_from-turns : (cfg : Config) (k : ℕ) (s : State) (xs : List ℕ) → records_from cfg (k + (length xs + 1)) s xs ≡ records_from cfg (length xs + 1) s xs
records_from-turns cfg zero s xs = ap (λ (n : ℕ). records_from cfg n s xs) (omega arith)
records_from-turns cfg (suc k) s xs =
    let shift : suc k + (length xs + 1) ≡ suc (k + (length xs + 1)) = omega arith in
    rw shift (records_from-suc cfg (k + (length xs + 1)) s xs (omega arith) ∙ records_from-turns cfg k s xs)

-- the next record stands before those that are left behind it
pub records_from-some : (cfg : Config) (s : State) (xs : List ℕ) (q : Read) → next_record cfg s [] [] xs ≡ Some q
    → records_from cfg (length xs + 1) s xs ≡ q.0 ∷ records_from cfg (length q.2 + 1) q.1 q.2
unfolding records_from
records_from-some cfg s xs q e =
    rw (add-one, e) (ap (λ (rows : List Fields). q.0 ∷ rows) (elim (next_record-shorter cfg s [] [] xs q e) [
      | inl less ↦
          let turns : length xs ≡ (length xs - (length q.2 + 1)) + (length q.2 + 1) = omega arith in
          rw turns (records_from-turns cfg (length xs - (length q.2 + 1)) q.1 q.2)
      | inr done ↦ records_from-gone cfg (length xs) (length q.2 + 1) q done.0 done.1
    ]))

-- no next record: none is left
pub records_from-none : (cfg : Config) (s : State) (xs : List ℕ) → next_record cfg s [] [] xs ≡ None → records_from cfg (length xs + 1) s xs ≡ []
unfolding records_from
records_from-none cfg s xs e = rw (add-one, e) refl

-- the value that is there
known : (o : Option (List ℕ)) → IsSome o → (bytes : List ℕ) × (o ≡ Some bytes)
known None h = cc h
known (Some bytes) h = (bytes, refl)

-- a read that found a record took it from the front
pub rows_left-found : (a b : BytesReader) (fields : Fields) → IsReading a → ReadRecord (λ (s : Bor (List ℕ)). Some s.now) a b true fields → rows_left a ≡ fields ∷ rows_left b
unfolding Reached
rows_left-found a b fields reading r =
    let (y, at_y) = known (bytes_left a) reading.known in
    let (z, at_z, reached) = rows-more (λ (s : Bor (List ℕ)). Some s.now) a b fields default_config a.state y y [] reading.config at_y (refl, refl) r in
    let (p, next, first, end) = reached in
    rw (at_y, at_z) (rw (← first, end.0, end.1) at (records_from-some default_config a.state y p next))

-- a read that found none had none left
pub rows_left-ended : (a b : BytesReader) (fields : Fields) → IsReading a → ReadRecord (λ (s : Bor (List ℕ)). Some s.now) a b false fields → rows_left a ≡ []
rows_left-ended a b fields reading r =
    let (y, at_y) = known (bytes_left a) reading.known in
    rw at_y (records_from-none default_config a.state y (rows-end (λ (s : Bor (List ℕ)). Some s.now) a b fields default_config y reading.config at_y r))
