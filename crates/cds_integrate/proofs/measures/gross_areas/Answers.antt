use Rattle.std.proofs.Common.{ℤ, ◌≡◌, ◌+◌, ◌∷◌, ◌++◌, [], drop, sym, ◌∙◌, ap, append_assoc, length, ◌<◌, ◌^◌}
use Rattle.std.proofs.Common.{arith, rules}
use Rattle.std.specs.Prelude.{unsigned_abs}
use Rattle.std.proofs.lemmas.List.Elements.{All-append}
use Rattle.cds_integrate.specs.Shapes.{Shape}
use Rattle.cds_integrate.specs.Measures.{gross_area, gross_areas}
use Rattle.cds_integrate.proofs.RowLaws.{area_end-low, row-at, rest-of, gross-at, one-all}
use Rattle.cds_integrate.proofs.measures.gross_areas.Goals as goal

pub gross_area-requires-clause-shape : goal.gross_area-requires-clause-shape
gross_area-requires-clause-shape g c =
    let row = c.loop-k.invariant.row in
    (row-at c.args.trace.now c.args.shapes.now c.loop-k.k row.0 row.1 c.index-shapes-k.result
    (omega arith) c.index-shapes-k.is row.2).0

pub gross_area-requires-clause-reaches : goal.gross_area-requires-clause-reaches
gross_area-requires-clause-reaches g c =
    let row = c.loop-k.invariant.row in
    rw (rest-of c.args.shapes.now (c.loop-k.k + 1)) (row-at c.args.trace.now c.args.shapes.now c.loop-k.k row.0 row.1
    c.index-shapes-k.result (omega arith) c.index-shapes-k.is row.2).1

pub gross_area-requires-clause-forward : goal.gross_area-requires-clause-forward
gross_area-requires-clause-forward g c =
    let row = c.loop-k.invariant.row in
    let here = row-at c.args.trace.now c.args.shapes.now c.loop-k.k row.0 row.1 c.index-shapes-k.result
    (omega arith) c.index-shapes-k.is row.2 in
    let far = area_end-low c.args.trace.now c.index-shapes-k.result
    (drop (c.loop-k.k + 1) c.args.shapes.now) row.1 here.0 here.2 in
    rw (rest-of c.args.shapes.now (c.loop-k.k + 1)) (omega (arith, far, here.0.order))

pub loop-k-preserved : goal.loop-k-preserved
loop-k-preserved g c =
    let signal = c.args.trace.now in
    let shapes = c.args.shapes.now in
    let k = c.loop-k.k in
    let row = c.loop-k.invariant.row in
    let below : k < length shapes = omega arith in
    let item : Shape = c.index-shapes-k.result in
    let here = row-at signal shapes k row.0 row.1 item below c.index-shapes-k.is row.2 in
    let pushed : c.push.new.self.items ≡ c.loop-k.areas.items ++ c.gross_area.result ∷ [] = search rules in
    let value : c.gross_area.result ≡ gross_area signal item (drop (k + 1) shapes) =
    rw (rest-of shapes (k + 1)) at c.gross_area.ensures.value in
    let next : c.gross_area.result ∷ gross_areas signal (drop (k + 1) shapes) ≡ gross_areas signal (drop k shapes) =
    ap (λ (a : ℤ). a ∷ gross_areas signal (drop (k + 1) shapes)) value ∙ sym
    (gross-at signal shapes k item below c.index-shapes-k.is) in
    record {
      items = rw pushed (append_assoc c.loop-k.areas.items (c.gross_area.result ∷ [])
          (gross_areas signal (drop (k + 1) shapes)) ∙ (ap (λ xs. c.loop-k.areas.items ++ xs) next ∙
          c.loop-k.invariant.items));
      small = rw pushed (All-append (λ a. unsigned_abs a < 2 ^ 66) c.loop-k.areas.items
          (c.gross_area.result ∷ []) c.loop-k.invariant.small
          (one-all (λ a. unsigned_abs a < 2 ^ 66) c.gross_area.result c.gross_area.ensures.small));
      len = search rules;
      row = (item.reach, row.1, here.2);
      counted = omega arith;
    }
