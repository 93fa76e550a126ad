-- How a signature is made: at which moment, and when the clock is asked for it.
use Rattle.std.specs.Prelude.{◌≡◌, ℕ, Bool, true, false, List, [], ◌∷◌, Option, Some, None, Result, Ok, Err, IfSome}
use Rattle.std.specs.Prelude.{is_some, option_map, if◌then◌else◌}
use Rattle.cds_base.specs.Clock.{Moments, moment_of, moments_after}
use Rattle.cds_book.specs.Judged.{sign_judged}
use Rattle.cds_book.specs.declared.command.SignPlan.{SignPlan}
use Rattle.cds_book.specs.declared.command.SignPlan.TheVariants as sign
use Rattle.cds_book.specs.declared.error.PlanError.{PlanError}
use Rattle.cds_desk.specs.State.{State}
use Rattle.cds_desk.specs.Commands.{IsPlanned, commanded}
use Rattle.cds_desk.specs.Judged.{change_of}
use Rattle.cds_desk.specs.Step.{signature_at}
use Rattle.cds_desk.specs.declared.judged.Wanted.{Wanted}
use Rattle.cds_desk.specs.declared.judged.Wanted.TheVariants as wanting
use Rattle.cds_wire.specs.Stated.{IsSignBody}
use Rattle.cds_wire.specs.declared.sign.SignBody.{SignBody}

-- what a request may want: a change that is planned in this state, or a signature whose parts are in their ranges
abbrev pub MayBeWanted : State → Wanted → Type 0
MayBeWanted state (wanting.Judged j) = IfSome (change_of j) (IsPlanned state)
MayBeWanted state (wanting.Signature sequence asked) = IsSignBody asked

-- whether the clock is asked: for a signature that would be made, which no moment changes, and for nothing else
abbrev pub asks_clock : State → Wanted → Bool
asks_clock state (wanting.Judged j) = false
asks_clock state (wanting.Signature sequence asked) =
    is_some (change_of (commanded state (signature_at state sequence asked 0)))

-- whether what is judged of a signature says that it is new
abbrev pub says_new : Result SignPlan PlanError → Bool
says_new (Ok sign.New) = true
says_new (Ok (sign.Kept number)) = false
says_new (Err error) = false

-- whether a signature is neither kept nor refused before its text is looked at
abbrev pub is_new : State → List ℕ → SignBody → Bool
is_new state sequence asked =
    says_new (sign_judged state.tables sequence asked.basis asked.number asked.name asked.meaning)

-- the moments that the clock is asked for where this is judged at a moment: this one, or none
abbrev pub moments_for : State → Wanted → ℕ → List ℕ
moments_for state w moment = if asks_clock state w then moment ∷ [] else []

-- the moments that were asked for: one, or none
abbrev pub moments_in : Option ℕ → List ℕ
moments_in (Some moment) = moment ∷ []
moments_in None = []

-- the clock was asked for these moments, one after the other, and no others; where it tells moments, these are they
abbrev pub ClockTold : List ℕ → Option Moments → Option Moments → Type 0
ClockTold [] before now = now ≡ before
ClockTold (moment ∷ moments) before now =
    IfSome before (λ told. moment ≡ moment_of told) × ClockTold moments (option_map moments_after before) now
