use Rattle.std.proofs.Common.{◌≡◌, ◌∙◌, refl, sym, ap}
use Rattle.cds_graph.specs.Building.{after}
use Rattle.cds_graph.specs.Held.{found_shown, results_shown}
use Rattle.cds_graph.specs.HeldGraph.{entry_shown}
use Rattle.cds_graph.specs.Results.{evaluated}
use Rattle.cds_graph.proofs.EntryLaws.{entry-kept, entry-made}
use Rattle.cds_graph.proofs.RangeLaws.{found_of-ranged}
use Rattle.cds_graph.proofs.entry.sequence_of.Goals as goal

pub returns-in-Some : goal.returns-in-Some
returns-in-Some c =
    ap entry_shown c.in_ok-clone.ensures.cases
    ∙ entry-kept (after c.args.source.now) c.args.kept.now c.args.name c.args.inputs.now c.in-Some.entry.now
    c.requires.right
    (sym c.in-Some.ensures)

pub evaluated-requires : goal.evaluated-requires
evaluated-requires c = rw c.in_ok-found.ensures (found_of-ranged (after c.args.source.now) c.args.inputs.now
    c.requires.ranged)

pub returns : goal.returns
returns c =
    ap entry_shown c.in_ok-new.ensures.ok
    ∙ entry-made (after c.args.source.now) c.args.name c.args.inputs.now c.in-Some-2.own _ (results_shown
    c.in_ok-node.node)
    (found_shown c.in_ok-node.node.found) c.in_ok-own.ensures c.in-Some-2.is c.requires.inputs
    (c.in_ok-node.ensures.value ∙ ap (λ f. evaluated (found_shown f)) (sym c.in_ok-node.ensures.stays))
    (ap found_shown c.in_ok-node.ensures.stays ∙ c.in_ok-found.ensures)
