use Rattle.std.proofs.Common.{◌≡◌, rules, int_eq}
use Rattle.std.specs.Cmp.Lexicographic.{pointwise}
use Rattle.cds_trace.proofs.SignalLaws.{Signal-same}
use Rattle.cds_trace.proofs.trace.Trace.same.Goals as goal

pub returns-then-period : goal.returns-then-period
returns-then-period c =
    let period : c.args.self.now.period ≡ c.args.other.now.period = search rules in
    let samples : c.eq.result ≡ pointwise int_eq c.args.self.now.samples c.args.other.now.samples = rw (← c.samples.ensures, ← c.samples-then-period.ensures) c.eq.ensures in
    Signal-same c.args.self.now c.args.other.now c.eq.result period samples
