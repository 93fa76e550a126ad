use Rattle.std.proofs.Common.{true, sym, ◌≡◌, ◌+◌, pos, ◌*ℤ◌, drop, get_or, length, ap, ◌∙◌, arith, rules}
use Rattle.std.proofs.lemmas.Int.{ints, to_z-of_z}
use mir.Syntax.{w128}
use mir.Val.{SFits, to_z}
use Rattle.cds_trace.specs.Heights.{span}
use Rattle.cds_integrate.specs.Shapes.{Shape}
use Rattle.cds_integrate.specs.Measures.{twice_area}
use Rattle.cds_integrate.proofs.RowLaws.{row-at}
use Rattle.cds_integrate.proofs.AreaLaws.{gross-length, gross-get, gross-rider, twice-step}
use Rattle.cds_integrate.proofs.measures.taken.Goals as goal

pub bounds-gross-k : goal.bounds-gross-k
bounds-gross-k c = omega (
  arith,
  ap length c.requires.gross,
  gross-length c.args.trace.now c.args.later.now,
  c.loop-k-test.true,
)

pub twice_area-requires-clause-whole : goal.twice_area-requires-clause-whole
twice_area-requires-clause-whole c =
    let signal = c.args.trace.now in
    let later = c.args.later.now in
    let k = c.loop-k.k in
    let row = c.loop-k.invariant.row in
    let item : Shape = c.index-later-k.result in
    let rider : item.rider ≡ true = sym c.rides.ensures ∙ c.if-not-rides.false in
    let here = row-at signal later k row.0 row.1 item (omega arith) c.index-later-k.is row.2 in
    let gross : get_or c.args.gross.now k (pos 0) ≡ twice_area signal item *ℤ pos (span item.line) =
    ap (λ xs. get_or xs k (pos 0)) c.requires.gross ∙ (gross-get signal k later item
    (omega arith) c.index-later-k.is ∙ gross-rider signal item (drop (k + 1) later) here.0 rider) in
    let fits : SFits w128 (get_or c.args.gross.now k (pos 0)) = search rules in
    rw (to_z-of_z w128 (get_or c.args.gross.now k (pos 0)) fits) gross

pub loop-k-preserved : goal.loop-k-preserved
loop-k-preserved c =
    let signal = c.args.trace.now in
    let later = c.args.later.now in
    let k = c.loop-k.k in
    let kept = c.loop-k.invariant in
    let item : Shape = c.index-later-k.result in
    let rider : item.rider ≡ true = sym c.rides.ensures ∙ c.if-not-rides.false in
    let here = row-at signal later k kept.row.0 kept.row.1 item (omega arith) c.index-later-k.is kept.row.2 in
    let fits : SFits w128 c.added-sum.result = search rules in
    let fits_one : SFits w128 c.twice_area.result = search rules in
    let one = simp to_z-of_z at c.added-sum.ensures in
    let told = c.twice_area.ensures in
    let sum = to_z w128 c.loop-k.sum-bits in
    rw (to_z-of_z w128 c.added-sum.result fits) (record {
      least = omega (arith, ints, one, kept.least, told.least);
      small = omega (arith, ints, one, kept.small, told.small);
      row = (item.reach, kept.row.1, here.2);
      sum = rw (one, told.value) (twice-step signal later k item sum _ (omega arith) c.index-later-k.is rider kept.sum);
    })
