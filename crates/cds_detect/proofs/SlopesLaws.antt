-- The thresholds in force over lists of events that are joined.
use Rattle.std.proofs.Common.{◌≡◌, ℕ, ◌+◌, ◌<◌, List, [], ◌∷◌, ◌++◌, take, length, get_or, Option, Some, None, refl, arith, ap, sym, ◌∙◌}
use Rattle.std.proofs.lemmas.Grind.{take_at_read}
use Rattle.std.proofs.lemmas.Bool.Decides.{nat_tests}
use Rattle.cds_base.specs.declared.event.Event.{Event}
use Rattle.cds_detect.specs.Slopes.{Slopes, later_of, in_force, slopes_set}

later_of-none : (a : Option Slopes) → later_of a None ≡ a
later_of-none None = refl
later_of-none (Some x) = refl

later_of-later_of : (a b c : Option Slopes) → later_of (later_of a b) c ≡ later_of a (later_of b c)
later_of-later_of None b c = refl
later_of-later_of (Some x) None c = refl
later_of-later_of (Some x) (Some y) None = later_of-none _
later_of-later_of (Some x) (Some y) (Some z) = grind (arith, nat_tests)

pub in_force-append : (xs ys : List Event) (time : ℕ) → in_force (xs ++ ys) time ≡ later_of (in_force xs time) (in_force ys time)
in_force-append [] ys time = refl
in_force-append (x ∷ xs) ys time =
    ap (later_of (slopes_set time x)) (in_force-append xs ys time) ∙ sym (later_of-later_of (slopes_set time x) (in_force xs time) (in_force ys time))

-- one event more
pub in_force-more : (es : List Event) (i time : ℕ) (d : Event) → i < length es → in_force (take (i + 1) es) time ≡ later_of (in_force (take i es) time) (slopes_set time (get_or es i d))
in_force-more es i time d l =
    ap (λ some. in_force some time) (take_at_read es i d l).1 ∙ (in_force-append (take i es) (get_or es i d ∷ []) time ∙ ap (later_of (in_force (take i es) time)) (later_of-none (slopes_set time (get_or es i d))))

pub ruleset more_laws = (in_force-more, in_force-append)
