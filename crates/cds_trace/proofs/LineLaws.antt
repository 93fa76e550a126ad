-- Laws of a plain line, two fields without quotes, as a record.
use Rattle.std.proofs.Common.{◌≡◌, ◌∙◌, ℕ, Bool, true, List, [], ◌∷◌, ◌++◌, Some, arith, not}
use Rattle.std.specs.Prelude.{◌==◌, ◌||◌, ◌<◌, length}
use Rattle.std.specs.List.{list_all}
use Rattle.std.proofs.lemmas.Bool.Decides.{nat_tests}
use Rattle.csv.specs.Machine.{Runs, next_record, step}
use Rattle.csv.specs.Reading.{default_config}
use Rattle.csv.specs.declared.parser.Action.TheVariants as act
use Rattle.csv.specs.declared.parser.State.TheVariants as st
use Rattle.csv.proofs.ReadFacts.{run-copies}
use Rattle.cds_trace.specs.TraceText.{Fields}

-- a byte that means nothing to a reader of records: no comma, no quote and no end of a line
abbrev pub is_plain : ℕ → Bool
is_plain byte = not ((byte == 44) || (byte == 34) || (byte == 13) || (byte == 10))

step-plain : (byte : ℕ) → is_plain byte ≡ true → step default_config st.InField byte ≡ (st.InField, act.Copy)
step-plain byte plain = grind (arith, nat_tests)

step-plain_first : (byte : ℕ) → is_plain byte ≡ true → step default_config st.StartField byte ≡ (st.InField, act.Copy)
step-plain_first byte plain = grind (arith, nat_tests)

step-plain_start : (byte : ℕ) → is_plain byte ≡ true → step default_config st.StartRecord byte ≡ (st.InField, act.Copy)
step-plain_start byte plain = grind (arith, nat_tests)

-- plain bytes only join the field at hand
Runs-plain : (bytes : List ℕ) → list_all is_plain bytes ≡ true → Runs default_config st.InField bytes
unfolding Runs
Runs-plain [] plain = tt
Runs-plain (byte ∷ rest) plain = (step-plain byte (grind arith), Runs-plain rest (grind arith))

-- a field that begins
next_record-field : (fields : Fields) (byte : ℕ) (bytes tail : List ℕ) → list_all is_plain (byte ∷ bytes) ≡ true
    → next_record default_config st.StartField fields [] ((byte ∷ bytes) ++ tail) ≡ next_record default_config st.InField fields (byte ∷ bytes) tail
unfolding next_record
next_record-field fields byte bytes tail plain =
    rw (step-plain_first byte (grind arith)) (run-copies default_config st.InField fields (byte ∷ []) bytes tail (Runs-plain bytes (grind arith)))

-- a record that begins
next_record-start : (byte : ℕ) (bytes tail : List ℕ) → list_all is_plain (byte ∷ bytes) ≡ true
    → next_record default_config st.StartRecord [] [] ((byte ∷ bytes) ++ tail) ≡ next_record default_config st.InField [] (byte ∷ bytes) tail
unfolding next_record
next_record-start byte bytes tail plain =
    rw (step-plain_start byte (grind arith)) (run-copies default_config st.InField [] (byte ∷ []) bytes tail (Runs-plain bytes (grind arith)))

-- two plain fields and a line feed are a record
pub next_record-line : (first second rest : List ℕ) → 0 < length first → 0 < length second → list_all is_plain first ≡ true → list_all is_plain second ≡ true
    → next_record default_config st.StartRecord [] [] (first ++ (44 ∷ (second ++ (10 ∷ rest)))) ≡ Some (first ∷ second ∷ [], st.StartRecord, rest)
unfolding next_record
next_record-line [] second rest some more plain too = absurd (omega arith)
next_record-line (a ∷ xs) [] rest some more plain too = absurd (omega arith)
next_record-line (a ∷ xs) (b ∷ ys) rest some more plain too =
    next_record-start a xs (44 ∷ ((b ∷ ys) ++ (10 ∷ rest))) plain
    ∙ next_record-field ((a ∷ xs) ∷ []) b ys (10 ∷ rest) too
