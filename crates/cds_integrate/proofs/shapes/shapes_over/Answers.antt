use Rattle.std.proofs.Common.{◌≡◌, ◌∷◌, ◌++◌, [], arith, rules}
use Rattle.std.proofs.lemmas.Grind.{common_steps}
use Rattle.std.proofs.lemmas.List.{take_all}
use Rattle.std.proofs.lemmas.List.Elements.{All-append}
use Rattle.cds_integrate.specs.Standing.{IsShape}
use Rattle.cds_integrate.proofs.PartLaws.{no_part, part-within, tiles-at, tiles-end, tiles-order}
use Rattle.cds_integrate.proofs.RowLaws.{one-all}
use Rattle.cds_integrate.proofs.shapes.shapes_over.Goals as goal

pub loop-part-preserved : goal.loop-part-preserved
loop-part-preserved g c =
    let parts = c.args.parts.now in
    let i = c.loop-part.part-index in
    let pushed : c.push.new.self.items ≡ c.loop-part.shapes.items ++ c.shape_of.result ∷ [] = search rules in
    record {
      items = grind (arith, common_steps);
      shapes = rw pushed (All-append (IsShape c.args.trace.now) c.loop-part.shapes.items
          (c.shape_of.result ∷ []) c.loop-part.invariant.shapes
          (one-all (IsShape c.args.trace.now) c.shape_of.result c.shape_of.ensures.shape));
      least = omega (arith, c.loop-part.invariant.least, c.shape_of.ensures.least);
      counted = λ start end tiled.
          let at = tiles-at start end i parts no_part tiled c.loop-part-test.true in
          omega (arith, at.0, at.1, c.loop-part.invariant.counted start end tiled, c.shape_of.ensures.most);
    }

pub returns-in_err-push-clause-most : goal.returns-in_err-push-clause-most
returns-in_err-push-clause-most g c = λ start end tiled.
    let at = tiles-at start end c.loop-part.part-index c.args.parts.now no_part tiled c.loop-part-test.true in
    let inside = part-within start end c.loop-part.part-index c.args.parts.now no_part tiled c.loop-part-test.true in
    omega (arith, at.0, inside.2, c.loop-part.invariant.counted start end tiled, c.shape_of.ensures.most)

pub returns-in_err-shapes-clause-most : goal.returns-in_err-shapes-clause-most
returns-in_err-shapes-clause-most g c = λ start end tiled. omega (arith, tiles-order start end c.args.parts.now tiled)

pub returns-clause-most : goal.returns-clause-most
returns-clause-most g c = λ start end tiled.
    let all = take_all c.loop-part.part-index c.args.parts.now c.loop-part-test.false in
    let last = tiles-end start end c.args.parts.now tiled in
    omega (arith, last, rw all at (c.loop-part.invariant.counted start end tiled))
