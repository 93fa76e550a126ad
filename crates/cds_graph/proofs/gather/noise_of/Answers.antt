use Rattle.std.proofs.Common.{◌≡◌, ◌∙◌, refl, sym, ap}
use Rattle.std.proofs.Common.{true, false, ok_or}
use Rattle.cds_base.specs.declared.peak.Missing.TheVariants.{NoNoise}
use Rattle.cds_graph.specs.Building.{after}
use Rattle.cds_graph.specs.HeldGraph.{noise_key_shown}
use Rattle.cds_graph.proofs.GatherLaws.{noise-no_blank, noise-no_window, noise-keyed}
use Rattle.cds_graph.proofs.MadeLaws.{none-tested}
use Rattle.cds_graph.proofs.gather.noise_of.Goals as goal

pub returns-then-is_none : goal.returns-then-is_none
returns-then-is_none c =
    noise-no_blank (after c.args.source.now) c.args.inputs.now _ c.first_blank.ensures
    (none-tested _ c.first_blank.result c.is_none.result true c.is_none.ensures c.if-is_none.true)

pub returns-in_default : goal.returns-in_default
returns-in_default c =
    noise-no_window (after c.args.source.now) c.args.inputs.now _ c.first_blank.ensures
    (none-tested _ c.first_blank.result c.is_none.result false c.is_none.ensures c.if-is_none.false) (rw (←
    c.requires.method) c.in_default.ensures)

pub returns : goal.returns
returns c =
    c.ok_or.ensures.value ∙ ap (λ o. ok_or o NoNoise) c.known_noise.ensures
    ∙ noise-keyed (after c.args.source.now) c.args.inputs.now (noise_key_shown c.in-Some.key) (rw (←
    c.requires.method) c.in-Some.ensures)
