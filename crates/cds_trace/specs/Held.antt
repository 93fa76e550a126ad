-- How a trace is held: its period, its samples, and their running sums.
use Rattle.cds_trace.specs.Signal.{Signal, IsTrace}
use Rattle.cds_trace.specs.Sums.{AreSums}
use Rattle.cds_trace.specs.declared.trace.Trace.TheInside.{Inside}

-- what a trace is seen as
abbrev pub signal_held : Inside → Signal
signal_held a = record { period = a.period; samples = a.samples.items }

pub record IsHeld (a : Inside) : Type 0 where
  pub trace : IsTrace (signal_held a)
  pub sums : AreSums a.samples.items a.sums.items
