-- Parts in a row and their riders, one at a time.
use Rattle.std.proofs.Common.{◌≡◌, ℕ, zero, suc, ◌+◌, ◌-◌, ◌<◌, ◌≤◌, true, false, List, All, [], ◌∷◌, length, drop}
use Rattle.std.proofs.Common.{get_or, pos, inl, inr, take, refl, ap, sym, ◌∙◌, arith, drop-cons, length-drop}
use Rattle.std.proofs.lemmas.List.{take_all}
use Rattle.std.proofs.lemmas.Bool.{cases_Bool}
use Rattle.cds_trace.specs.Signal.{Signal}
use Rattle.cds_integrate.specs.Shapes.{Shape}
use Rattle.cds_integrate.specs.Measures.{area_end, gross_area, gross_areas, measure, measured}
use Rattle.cds_integrate.specs.Standing.{from_reach, IsShape, Reaches, InRow}

-- one more rider
pub reach-on : (reach : ℕ) (shape : Shape) (later : List Shape) → shape.rider ≡ true →
    from_reach reach (shape ∷ later) ≡ from_reach shape.reach later
reach-on reach shape later is = rw is refl

-- another part ends the riders
pub reach-end : (reach : ℕ) (shape : Shape) (later : List Shape) → shape.rider ≡ false →
    from_reach reach (shape ∷ later) ≡ reach
reach-end reach shape later is = rw is refl

-- riders ahead reach at least as far as where they begin
pub reach-low : (signal : Signal) (later : List Shape) (reach start end : ℕ) → reach ≤ start →
    InRow signal start later end → reach ≤ from_reach reach later
reach-low signal [] reach start end low row = omega arith
reach-low signal (shape ∷ later) reach start end low row =
    elim (cases_Bool shape.rider) [
      | inl is ↦
          let more = reach-low signal later shape.reach shape.reach end (omega arith) row.3 in
          rw (reach-on reach shape later is) (omega (arith, more, row.0, row.1.order, row.1.reaches))
      | inr is ↦ rw (reach-end reach shape later is) (omega arith)
    ]

-- the area of a part goes at least to the end of its range
pub area_end-low : (signal : Signal) (shape : Shape) (later : List Shape) (end : ℕ) → IsShape signal shape →
    InRow signal shape.reach later end →
    shape.end ≤ area_end shape later
area_end-low signal shape later end is row =
    elim (cases_Bool shape.rider) [
      | inl rider ↦ rw rider (omega arith)
      | inr other ↦ rw other (reach-low signal later shape.end shape.reach end is.reaches row)
    ]

-- a shape to stand where a list has none
abbrev pub no_shape : Shape
no_shape = record {
  start = 0;
  apex = 0;
  end = 0;
  reach = 0;
  rider = false;
  line = record {
    from = 0;
    from_y = pos 0;
    to = 0;
    to_y = pos 0;
  };
}

-- the shapes from one on
pub shapes-at : (shapes : List Shape) (k : ℕ) (d : Shape) → k < length shapes →
    drop k shapes ≡ get_or shapes k d ∷ drop (k + 1) shapes
shapes-at shapes k d below =
    let e : k + 1 ≡ suc k = omega arith in
    rw e (drop-cons shapes k d below)

-- a slice to the end
pub rest-of : {X : Type 0} (xs : List X) (k : ℕ) → take (length xs - k) (drop k xs) ≡ drop k xs
rest-of xs k = take_all (length xs - k) (drop k xs) (omega (arith, length-drop k xs))

-- one more rider of a slice
pub reach-step : (later : List Shape) (i reach target : ℕ) (item : Shape) → i < length later →
    item ≡ get_or later i item → item.rider ≡ true →
    from_reach reach (drop i later) ≡ target → from_reach item.reach (drop (i + 1) later) ≡ target
reach-step later i reach target item below at is all =
    let split : drop i later ≡ item ∷ drop (i + 1) later = rw (sym at) at (shapes-at later i item below) in
    sym (reach-on reach item (drop (i + 1) later) is) ∙ (ap (from_reach reach) (sym split) ∙ all)

-- what a row says of one of its parts
pub row-at : (signal : Signal) (shapes : List Shape) (k start end : ℕ) (item : Shape) → k < length shapes →
    item ≡ get_or shapes k item →
    InRow signal start (drop k shapes) end →
    IsShape signal item × Reaches item (drop (k + 1) shapes) × InRow signal item.reach (drop (k + 1) shapes) end
row-at signal shapes k start end item below at row =
    let split : drop k shapes ≡ item ∷ drop (k + 1) shapes = rw (sym at) at (shapes-at shapes k item below) in
    let here = rw split at row in
    (here.1, here.2, here.3)

-- gross areas from one part on
pub gross-at : (signal : Signal) (shapes : List Shape) (k : ℕ) (item : Shape) → k < length shapes →
    item ≡ get_or shapes k item →
    gross_areas signal (drop k shapes) ≡ gross_area signal item (drop (k + 1) shapes) ∷ gross_areas signal
    (drop (k + 1) shapes)
gross-at signal shapes k item below at =
    let split : drop k shapes ≡ item ∷ drop (k + 1) shapes = rw (sym at) at (shapes-at shapes k item below) in
    ap (gross_areas signal) split

-- parts with their measures from one on
pub measured-at : (signal : Signal) (shapes : List Shape) (k : ℕ) (item : Shape) → k < length shapes →
    item ≡ get_or shapes k item →
    measured signal (drop k shapes) ≡ measure signal item (drop (k + 1) shapes) ∷ measured signal (drop (k + 1) shapes)
measured-at signal shapes k item below at =
    let split : drop k shapes ≡ item ∷ drop (k + 1) shapes = rw (sym at) at (shapes-at shapes k item below) in
    ap (measured signal) split

-- what holds of one entry holds of a list of it alone
pub one-all : {X : Type 0} (P : X → Type 0) (x : X) → P x → All P (x ∷ [])
one-all P x p zero d below = p
one-all P x p (suc k) d below = absurd (omega arith)
