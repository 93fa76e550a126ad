use Rattle.std.proofs.Common.{◌∙◌, ◌++◌, ap, sym}
use Rattle.cds_events.proofs.CutLaws.{cut_all-whole}
use Rattle.cds_events.proofs.drops.add_pieces.Goals as goal

pub returns-then-not-is_crossed-clause-value : goal.returns-then-not-is_crossed-clause-value
returns-then-not-is_crossed-clause-value g c =
    c.in_ok-push.ensures.items
    ∙ ap (λ cut. c.args.pieces.now.items ++ cut) (sym (cut_all-whole c.args.trace.now c.args.part c.args.drops.now
    (sym c.is_crossed.ensures ∙ c.if-not-is_crossed.true)))
