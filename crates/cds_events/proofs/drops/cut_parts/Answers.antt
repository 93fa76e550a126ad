use Rattle.std.proofs.Common.{refl, ◌∙◌, ◌+◌, ◌-◌, ◌*◌, arith, sym}
use Rattle.std.proofs.lemmas.List.Sums.{sum_by-take-le}
use Rattle.cds_base.specs.declared.cluster.Part.{Part}
use Rattle.cds_events.proofs.CutLaws.{cut_all-none, cut_parts-more, cut_parts-steps}
use Rattle.cds_events.proofs.drops.cut_parts.Goals as goal

pub loop-part-init : goal.loop-part-init
loop-part-init g c = record {
  value = c.in_ok-pieces.ensures.items ∙ sym (cut_all-none c.args.trace.now c.args.drops.now);
  least = omega arith;
  most = omega arith;
}

pub returns-in_err-add_pieces-clause-most : goal.returns-in_err-add_pieces-clause-most
returns-in_err-add_pieces-clause-most g c =
    let here = cut_parts-steps c.args.trace.now c.args.parts.now c.loop-part.part-index _ c.args.steps.now _ _
    c.loop-part-test.true c.requires c.loop-part.invariant.most c.add_pieces.ensures.most in
    omega (
      arith,
      here,
      sum_by-take-le (λ (part : Part). 2 * (part.end - part.start)) c.args.parts.now
          (c.loop-part.part-index + 1),
    )

pub loop-part-preserved : goal.loop-part-preserved
loop-part-preserved g c =
    let kept = c.loop-part.invariant in
    record {
      value = c.in_ok-add_pieces.ensures.value ∙ cut_parts-more c.args.trace.now c.args.parts.now c.args.drops.now
          c.loop-part.pieces.items _ c.loop-part.part-index _ c.loop-part-test.true kept.value refl;
      least = omega (arith, kept.least, c.add_pieces.ensures.least);
      most = cut_parts-steps c.args.trace.now c.args.parts.now c.loop-part.part-index _ c.args.steps.now _ _
          c.loop-part-test.true c.requires kept.most c.add_pieces.ensures.most;
    }
