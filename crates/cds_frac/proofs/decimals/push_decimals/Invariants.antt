use Rattle.std.proofs.Common.{◌≡◌, ◌*◌, ◌%◌, ◌^◌, ◌++◌, string_bytes}
use Rattle.cds_frac.specs.Decimals.{decimals}
use Rattle.cds_frac.proofs.decimals.push_decimals.Given as goal

abbrev pub invariant-loop : goal.invariant-loop
invariant-loop l = record {
  written : string_bytes l.text ≡ string_bytes l.fn.text ++ decimals l.rest l.den l.counter;
  behind : l.left ≡ l.rest * 10 ^ l.counter % l.den;
}
