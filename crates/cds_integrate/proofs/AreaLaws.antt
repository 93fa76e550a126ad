-- Gross areas of parts in a row, those of their riders, and their bounds.
use Rattle.std.proofs.Common.{◌≡◌, ℕ, zero, suc, ◌+◌, ◌-◌, ◌*◌, ◌<◌, ◌≤◌, true, false, List, [], ◌∷◌, length, drop}
use Rattle.std.proofs.Common.{get_or, ℤ, pos, negsuc, ◌+ℤ◌, ◌-ℤ◌, ◌*ℤ◌, ◌≤ℤ◌, inl, inr, refl, sym, ap, ◌∙◌, arith}
use Rattle.std.specs.Prelude.{unsigned_abs, if◌then◌else◌}
use Rattle.std.specs.List.{fold}
use Rattle.std.proofs.lemmas.Bool.{cases_Bool}
use Rattle.std.proofs.lemmas.Int.{ints}
use Rattle.std.proofs.Math.Nat.{mul-le-mul_right}
use Rattle.cds_trace.specs.Signal.{Signal, IsSample, IsTrace}
use Rattle.cds_trace.specs.declared.trace.TheConstants.{GREATEST_SAMPLE}
use Rattle.cds_trace.specs.Heights.{span}
use Rattle.cds_area.proofs.AreaLaws.{abs-area-le, abs-sample-le}
use Rattle.cds_integrate.specs.Shapes.{Shape}
use Rattle.cds_integrate.specs.Measures.{riders, area_end, gross_area, gross_areas, twice_area, twice_areas, area_of}
use Rattle.cds_integrate.specs.Standing.{IsShape, Reaches, InRow, most_area}
use Rattle.cds_integrate.proofs.RowLaws.{area_end-low, shapes-at}

-- gross areas from one part on
pub gross-drop : (signal : Signal) (k : ℕ) (shapes : List Shape) →
    drop k (gross_areas signal shapes) ≡ gross_areas signal (drop k shapes)
gross-drop signal zero shapes = refl
gross-drop signal (suc k) [] = refl
gross-drop signal (suc k) (shape ∷ later) = gross-drop signal k later

pub gross-length : (signal : Signal) (shapes : List Shape) → length (gross_areas signal shapes) ≡ length shapes
gross-length signal [] = refl
gross-length signal (shape ∷ later) = ap suc (gross-length signal later)

-- the gross area of one part
pub gross-get : (signal : Signal) (k : ℕ) (shapes : List Shape) (item : Shape) → k < length shapes →
    item ≡ get_or shapes k item →
    get_or (gross_areas signal shapes) k (pos 0) ≡ gross_area signal item (drop (k + 1) shapes)
gross-get signal k [] item below at = absurd (omega arith)
gross-get signal zero (shape ∷ later) item below at = rw at refl
gross-get signal (suc k) (shape ∷ later) item below at =
    let e : suc k + 1 ≡ suc (k + 1) = omega arith in
    rw e (gross-get signal k later item (omega arith) at)

-- the gross area of a rider is a multiple of its line's span
pub gross-rider : (signal : Signal) (shape : Shape) (later : List Shape) → IsShape signal shape → shape.rider ≡ true →
    gross_area signal shape later ≡ twice_area signal shape *ℤ pos (span shape.line)
gross-rider signal shape later is rider =
    rw rider (is.exact rider)

-- twice the areas of riders, from a sum so far
pub twice-from : (signal : Signal) (sum : ℤ) (shapes : List Shape) →
    fold (λ sum rider. sum +ℤ twice_area signal rider) sum shapes ≡ sum +ℤ twice_areas signal shapes
twice-from signal sum [] = omega (arith, ints)
twice-from signal sum (shape ∷ shapes) =
    let one : ℤ = twice_area signal shape in
    let a = twice-from signal (sum +ℤ one) shapes in
    let b = twice-from signal (pos 0 +ℤ one) shapes in
    rw (a, b) (omega (arith, ints))

-- one more rider
pub twice-on : (signal : Signal) (sum : ℤ) (shape : Shape) (later : List Shape) → shape.rider ≡ true →
    (sum +ℤ twice_area signal shape) +ℤ twice_areas signal (riders later) ≡ sum +ℤ twice_areas signal
    (riders (shape ∷ later))
twice-on signal sum shape later is =
    let b = twice-from signal (pos 0 +ℤ twice_area signal shape) (riders later) in
    rw is (rw b (omega (arith, ints)))

-- another part ends the riders
pub twice-end : (signal : Signal) (shape : Shape) (later : List Shape) → shape.rider ≡ false →
    twice_areas signal (riders (shape ∷ later)) ≡ pos 0
twice-end signal shape later is = rw is refl

-- one more rider of a slice
pub twice-step : (signal : Signal) (later : List Shape) (k : ℕ) (item : Shape) (sum total : ℤ) → k < length later →
    item ≡ get_or later k item →
    item.rider ≡ true → sum +ℤ twice_areas signal (riders (drop k later)) ≡ total →
    (sum +ℤ twice_area signal item) +ℤ twice_areas signal (riders (drop (k + 1) later)) ≡ total
twice-step signal later k item sum total below at is all =
    let split : drop k later ≡ item ∷ drop (k + 1) later = rw (sym at) at (shapes-at later k item below) in
    twice-on signal sum item (drop (k + 1) later) is ∙ (ap (λ xs. sum +ℤ twice_areas signal (riders xs))
    (sym split) ∙ all)

-- a sample is at most the greatest one
pub sample-size : (y : ℤ) → IsSample y → unsigned_abs y ≤ unsigned_abs GREATEST_SAMPLE
sample-size y is = omega (arith, ints, is.least, is.greatest)

-- a gross area is at most twice the greatest sample for each sample of a trace
pub gross-most : (signal : Signal) (shape : Shape) (later : List Shape) (end : ℕ) → IsTrace signal →
    IsShape signal shape → Reaches shape later → InRow signal shape.reach later end →
    unsigned_abs (gross_area signal shape later) ≤ most_area (length signal.samples - 1) (2 * span shape.line)
gross-most signal shape later end trace is reaches row =
    let far = area_end-low signal shape later end is row in
    let width : ℕ = area_end shape later - shape.start in
    let great : ℕ = unsigned_abs GREATEST_SAMPLE in
    let most = abs-area-le signal shape.line shape.start (area_end shape later) great
    (λ i inside. abs-sample-le signal great i trace (omega (arith, ints)) inside)
    is.from reaches is.within (sample-size shape.line.from_y is.levels.0) (sample-size shape.line.to_y is.levels.1) in
    let narrow : width ≤ length signal.samples - 1 = omega (arith, reaches, is.within) in
    omega (arith, most, mul-le-mul_right (2 * span shape.line) narrow)

-- an area is the gross area without what is taken out of it
pub area-without : (signal : Signal) (shape : Shape) (later : List Shape) (taken : ℤ) →
    taken ≡ (if shape.rider then pos 0 else twice_areas signal (riders later)) →
    gross_area signal shape later -ℤ taken *ℤ pos (span shape.line) ≡ area_of signal shape later
area-without signal shape later taken is =
    elim (cases_Bool shape.rider) [
      | inl rider ↦ rw (is, rider) (omega (arith, ints))
      | inr other ↦ rw (is, other) refl
    ]

-- a number that isn't negative has multiples that aren't
times-least : (z : ℤ) (s : ℕ) → pos 0 ≤ℤ z → pos 0 ≤ℤ (z *ℤ pos s)
times-least (pos n) s least = omega (arith, ints)
times-least (negsuc n) s least = absurd (omega (arith, ints))

-- what is taken out only lowers an area
pub area-lower : (gross taken : ℤ) (span most : ℕ) → pos 0 ≤ℤ taken → unsigned_abs gross ≤ most →
    (gross -ℤ taken *ℤ pos span) ≤ℤ pos most
area-lower gross taken span most least size =
    omega (arith, ints, times-least taken span least, size)
