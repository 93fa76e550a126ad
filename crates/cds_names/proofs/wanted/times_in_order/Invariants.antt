use Rattle.std.proofs.Common.{◌≡◌, map}
use Rattle.std.specs.List.{range_with_len}
use Rattle.cds_names.proofs.Listing.{time_at}
use Rattle.cds_names.proofs.wanted.times_in_order.Given as goal

abbrev pub invariant-loop-peak : goal.invariant-loop-peak
invariant-loop-peak l = l.peaks.items ≡ map (time_at l.times) (range_with_len 0 l.peak)
