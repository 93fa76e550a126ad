-- What a row holds, as its answer. For private functions alone.
use Rattle.cds_integrate.specs.declared.row_part.Held.{Held}
use Rattle.cds_integrate.specs.declared.row_part.Held.TheVariants as held
use Rattle.cds_integrate.specs.Row.{Answer, Peaks, TooMany}

-- the answer that a row holds
abbrev pub answer_of : Held → Answer
answer_of (held.Peaks peaks) = Peaks peaks.items
answer_of (held.TooMany number) = TooMany number
