use Rattle.std.proofs.Common.{◌≡◌, ◌∙◌, arith}
use Rattle.cds_events.proofs.ClusterLaws.{run-inside, run-span}
use Rattle.cds_events.proofs.arrangement.cluster_of.Goals as goal

pub cut_parts-requires : goal.cut_parts-requires
cut_parts-requires g c =
    rw (c.deref.ensures.value, c.in_ok-parts.ensures.value) (run-inside c.args.trace.now c.args.run.now c.requires.some
    c.requires.ordered)

pub returns-in_err-parts-2-clause-most : goal.returns-in_err-parts-2-clause-most
returns-in_err-parts-2-clause-most g c =
    let parts : c.deref.result.now ≡ _ = c.deref.ensures.value ∙ c.in_ok-parts.ensures.value in
    let most = rw parts at c.cut_parts.ensures.most in
    omega (
      arith,
      most,
      c.parts_of_run.ensures.most,
      run-span c.args.trace.now c.args.run.now c.requires.some c.requires.ordered,
    )

pub returns-clause-most : goal.returns-clause-most
returns-clause-most g c =
    let parts : c.deref.result.now ≡ _ = c.deref.ensures.value ∙ c.in_ok-parts.ensures.value in
    let most = rw parts at c.cut_parts.ensures.most in
    omega (
      arith,
      most,
      c.parts_of_run.ensures.most,
      run-span c.args.trace.now c.args.run.now c.requires.some c.requires.ordered,
    )
