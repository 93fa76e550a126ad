use Rattle.std.proofs.Common.{◌≡◌, ◌+◌, ◌<◌, ◌∷◌, ◌++◌, [], pos, drop, get_or, length, sym, ◌∙◌, ap, append_assoc}
use Rattle.std.proofs.Common.{length-drop, arith, rules}
use Rattle.std.proofs.lemmas.Int.{to_z-of_z}
use Rattle.std.proofs.lemmas.List.Elements.{All-append}
use mir.Syntax.{w128}
use mir.Val.{SFits}
use Rattle.cds_integrate.specs.Shapes.{Shape}
use Rattle.cds_integrate.specs.Measures.{Measured, measure, measured}
use Rattle.cds_integrate.specs.Standing.{IsMeasured}
use Rattle.cds_integrate.proofs.RowLaws.{row-at, rest-of, measured-at, one-all}
use Rattle.cds_integrate.proofs.AreaLaws.{gross-get, gross-drop}
use Rattle.cds_integrate.proofs.measures.measure_each.Goals as goal

pub measure-requires-clause-shape : goal.measure-requires-clause-shape
measure-requires-clause-shape g c =
    let row = c.loop-k.invariant.row in
    (row-at c.args.trace.now c.args.shapes.now c.loop-k.k row.0 row.1 c.index-shapes-k.result
    (omega arith) c.index-shapes-k.is row.2).0

pub measure-requires-clause-reaches : goal.measure-requires-clause-reaches
measure-requires-clause-reaches g c =
    let row = c.loop-k.invariant.row in
    rw (rest-of c.args.shapes.now (c.loop-k.k + 1)) (row-at c.args.trace.now c.args.shapes.now c.loop-k.k row.0 row.1
    c.index-shapes-k.result (omega arith) c.index-shapes-k.is row.2).1

pub measure-requires-clause-row : goal.measure-requires-clause-row
measure-requires-clause-row g c =
    let row = c.loop-k.invariant.row in
    let here = row-at c.args.trace.now c.args.shapes.now c.loop-k.k row.0 row.1 c.index-shapes-k.result
    (omega arith) c.index-shapes-k.is row.2 in
    rw (rest-of c.args.shapes.now (c.loop-k.k + 1)) (row.1, here.2)

pub measure-requires-clause-gross : goal.measure-requires-clause-gross
measure-requires-clause-gross g c =
    let gross = c.args.gross.now in
    let k = c.loop-k.k in
    let fits : SFits w128 (get_or gross k (pos 0)) = search rules in
    rw (to_z-of_z w128 (get_or gross k (pos 0)) fits, rest-of c.args.shapes.now (k + 1))
    (ap (λ xs. get_or xs k (pos 0)) c.requires.gross ∙ gross-get c.args.trace.now k c.args.shapes.now
    c.index-shapes-k.result (omega arith) c.index-shapes-k.is)

pub measure-requires-clause-later_gross : goal.measure-requires-clause-later_gross
measure-requires-clause-later_gross g c =
    let k = c.loop-k.k in
    rw (rest-of c.args.shapes.now (k + 1), rest-of c.args.gross.now (k + 1))
    (ap (drop (k + 1)) c.requires.gross ∙ gross-drop c.args.trace.now (k + 1) c.args.shapes.now)

pub measure-requires-clause-few : goal.measure-requires-clause-few
measure-requires-clause-few g c =
    rw (rest-of c.args.shapes.now (c.loop-k.k + 1)) (omega (
      arith,
      length-drop
          (c.loop-k.k + 1) c.args.shapes.now,
      c.requires.few,
    ))

pub loop-k-preserved : goal.loop-k-preserved
loop-k-preserved g c =
    let signal = c.args.trace.now in
    let shapes = c.args.shapes.now in
    let k = c.loop-k.k in
    let row = c.loop-k.invariant.row in
    let below : k < length shapes = omega arith in
    let item : Shape = c.index-shapes-k.result in
    let here = row-at signal shapes k row.0 row.1 item below c.index-shapes-k.is row.2 in
    let pushed : c.push.new.self.items ≡ c.loop-k.parts.items ++ c.measure.result ∷ [] = search rules in
    let value : c.measure.result ≡ measure signal item (drop (k + 1) shapes) =
    rw (rest-of shapes (k + 1)) at c.measure.ensures.value in
    let next : c.measure.result ∷ measured signal (drop (k + 1) shapes) ≡ measured signal (drop k shapes) =
    ap (λ (a : Measured). a ∷ measured signal (drop (k + 1) shapes)) value ∙ sym
    (measured-at signal shapes k item below c.index-shapes-k.is) in
    record {
      items = rw pushed (append_assoc c.loop-k.parts.items (c.measure.result ∷ [])
          (measured signal (drop (k + 1) shapes)) ∙ (ap (λ xs. c.loop-k.parts.items ++ xs) next ∙
          c.loop-k.invariant.items));
      measured = rw pushed (All-append (IsMeasured signal) c.loop-k.parts.items
          (c.measure.result ∷ []) c.loop-k.invariant.measured
          (one-all (IsMeasured signal) c.measure.result c.measure.ensures.measured));
      row = (item.reach, row.1, here.2);
      counted = omega arith;
    }
