use Rattle.std.proofs.Common.{◌≡◌, take}
use Rattle.std.specs.Prelude.{sum}
use Rattle.cds_suit.specs.Deviation.{sum_of_squares}
use Rattle.cds_suit.proofs.square.sums_of.Given as goal

abbrev pub invariant-loop-value : goal.invariant-loop-value
invariant-loop-value l = record { x : l.sums.x ≡ sum (take l.value-index l.values); xx : l.sums.xx ≡ sum_of_squares (take l.value-index l.values) }
