-- What a clock tells: the moments, in seconds since 1970, that it will answer.
use Rattle.std.specs.Prelude.{ℕ, List, ◌<◌, drop, get_or}
use Rattle.cds_base.specs.declared.clock.TheConstants.{MOMENT_LIMIT}

-- the moments to come, in order, and the last moment, which is answered again and again behind them
pub record Moments : Type 0 where
  pub coming : List ℕ
  pub last : ℕ

-- the moment that is answered next: the first of those to come, or the last moment where none is to come
abbrev pub moment_of : Moments → ℕ
moment_of moments = get_or moments.coming 0 moments.last

-- what is to come once that moment is answered
abbrev pub moments_after : Moments → Moments
moments_after moments = record { coming = drop 1 moments.coming; last = moments.last }

-- a moment lies before the limit
abbrev pub IsMoment : ℕ → Type 0
IsMoment moment = moment < MOMENT_LIMIT
