use Rattle.std.proofs.Common.{◌≡◌, ◌+◌, ◌*◌, ◌<◌, ◌≤◌}
use Rattle.cds_frac.proofs.decimals.next_decimal.Given as goal

abbrev pub invariant-loop : goal.invariant-loop
invariant-loop l = record {
  counted : l.digit * l.den + l.left ≡ l.rest * l.counter;
  below_one : l.left < l.den;
  few : l.digit ≤ l.counter;
}
