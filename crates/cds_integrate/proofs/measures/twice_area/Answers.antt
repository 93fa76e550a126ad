use Rattle.std.proofs.Common.{◌≡◌, ◌/◌, ◌<◌, ◌^◌, pos, ◌∙◌, ap, arith, rules}
use Rattle.std.specs.Prelude.{unsigned_abs}
use Rattle.std.proofs.lemmas.Int.{to_z_pos, to_z-of_z}
use Rattle.std.proofs.Math.Nat.{div-le_self}
use mir.Syntax.{w128}
use mir.Val.{SFits}
use Rattle.cds_trace.specs.Heights.{span}
use Rattle.cds_integrate.specs.Measures.{twice_area}
use Rattle.cds_integrate.proofs.NumberLaws.{exact-div, size-of}
use Rattle.cds_integrate.proofs.measures.twice_area.Goals as goal

pub returns : goal.returns
returns c =
    let signal = c.args.trace.now in
    let line = c.args.rider.line in
    let fits : SFits w128 c.args.gross = search rules in
    let whole = rw c.requires.whole at (simp to_z-of_z at c.unsigned_abs.ensures.value) in
    let width : c.from.result ≡ span line = c.from.ensures ∙ c.line_span.ensures.value in
    let some : 0 < span line = omega (arith, c.line_span.ensures.value, c.line_span.ensures.some) in
    let exact : c.unsigned_abs.result / c.from.result ≡ unsigned_abs (twice_area signal c.args.rider) =
    rw (whole, width) (exact-div (twice_area signal c.args.rider) (span line) some) in
    let size = simp to_z-of_z at c.unsigned_abs.ensures.value in
    let low : c.unsigned_abs.result / c.from.result < 2 ^ 127 =
    omega (arith, div-le_self c.unsigned_abs.result c.from.result, size, c.requires.small) in
    let value = to_z_pos w128 (c.unsigned_abs.result / c.from.result) low ∙
    (ap pos exact ∙ size-of (twice_area signal c.args.rider) c.requires.over) in
    record {
      value = value;
      least = rw value c.requires.over;
      small = rw (to_z_pos w128 (c.unsigned_abs.result / c.from.result) low)
          (omega (arith, div-le_self c.unsigned_abs.result c.from.result, size, c.requires.small));
    }
