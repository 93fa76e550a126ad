use Rattle.std.proofs.Common.{◌≡◌, ◌+◌, ◌*◌, ◌<◌, nat_cmp}
use Rattle.cds_frac.proofs.compare.compare_ratios.Given as goal

-- what is left to compare stands as the two ratios do
abbrev pub invariant-loop-left : goal.invariant-loop-left
invariant-loop-left l = record {
  first : 0 < l.b;
  second : 0 < l.d;
  same : nat_cmp (l.a * l.d) (l.c * l.b) ≡ nat_cmp (l.fn.a * l.fn.d) (l.fn.c * l.fn.b);
}

abbrev pub decreases-loop-left : goal.decreases-loop-left
decreases-loop-left l = l.b + l.d
