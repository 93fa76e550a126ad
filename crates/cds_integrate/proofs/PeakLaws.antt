-- The peaks of a row, one at a time, and what holds of the numbers of each.
use Rattle.std.proofs.Common.{◌≡◌, ℕ, suc, ◌+◌, true, false, not, ◌&&◌, List, [], ◌∷◌, ◌++◌, length, Option, pos, ◌<ℤ◌}
use Rattle.std.proofs.Common.{refl, ap, arith}
use Rattle.std.specs.Prelude.{int_lt}
use Rattle.std.proofs.lemmas.Bool.{and_parts}
use Rattle.std.proofs.lemmas.Grind.{common_steps}
use Rattle.cds_base.specs.declared.peak.Peak.{Peak}
use Rattle.cds_rules.specs.Fields.{Fields}
use Rattle.cds_trace.specs.Signal.{Signal}
use Rattle.cds_integrate.specs.Measures.{Measured}
use Rattle.cds_integrate.specs.Peaks.{Found}
use Rattle.cds_integrate.specs.Measures.{is_rejected}
use Rattle.cds_integrate.specs.Peaks.{boundary_height, is_valley_between, component_of, IsPeak, ArePeaks}

-- it lies above the line
pub valley-high : (signal : Signal) (fields : Fields) (before part : Measured) →
    is_valley_between signal fields before part ≡ true →
    pos 0 <ℤ boundary_height signal part
valley-high signal fields before part is =
    let rest = (and_parts (not before.shape.rider && not part.shape.rider)
    (not (is_rejected signal fields before) && int_lt (pos 0) (boundary_height signal part)) is).1 in
    let above = (and_parts (not (is_rejected signal fields before))
    (int_lt (pos 0) (boundary_height signal part)) rest).1 in
    grind (arith, common_steps)

-- what isn't rejected has a positive area and height
pub kept-positive : (signal : Signal) (fields : Fields) (part : Measured) → is_rejected signal fields part ≡ false →
    (pos 0 <ℤ part.area) × (pos 0 <ℤ part.height)
kept-positive signal fields part kept =
    (grind (arith, common_steps), grind (arith, common_steps))

-- one more peak
pub peaks-on : (signal : Signal) (fields : Fields) (naming : List (Option ℕ)) (number : ℕ) (found : List Found)
    (peaks : List Peak) (one : Found) (peak : Peak) →
    ArePeaks signal fields naming number found peaks →
    IsPeak signal fields (component_of naming (number + length found)) one peak →
    ArePeaks signal fields naming number (found ++ one ∷ []) (peaks ++ peak ∷ [])
peaks-on signal fields naming number [] [] one peak are is =
    let e : number + 0 ≡ number = omega arith in
    (rw e at is, tt)
peaks-on signal fields naming number [] (p ∷ ps) one peak are is = absurd are
peaks-on signal fields naming number (f ∷ fs) [] one peak are is = absurd are
peaks-on signal fields naming number (f ∷ fs) (p ∷ ps) one peak are is =
    let e : number + suc (length fs) ≡ suc number + length fs = omega arith in
    (are.0, peaks-on signal fields naming (suc number) fs ps one peak are.1 (rw e at is))

-- there are as many peaks as found parts
pub peaks-count : (signal : Signal) (fields : Fields) (naming : List (Option ℕ)) (number : ℕ) (found : List Found)
    (peaks : List Peak) →
    ArePeaks signal fields naming number found peaks → length peaks ≡ length found
peaks-count signal fields naming number [] [] are = refl
peaks-count signal fields naming number [] (p ∷ ps) are = absurd are
peaks-count signal fields naming number (f ∷ fs) [] are = absurd are
peaks-count signal fields naming number (f ∷ fs) (p ∷ ps) are =
    ap suc (peaks-count signal fields naming (suc number) fs ps are.1)
