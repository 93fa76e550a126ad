use Rattle.std.proofs.Common.{[]}
use Rattle.std.proofs.lemmas.List.Elements.{All-nil, All-cons, All-append}
use Rattle.cds_sign.specs.Ranges.{IsAskedRow}
use Rattle.cds_graph.proofs.turn_lines.each_row.Goals as goal

pub loop-word-preserved : goal.loop-word-preserved
loop-word-preserved c =
    rw c.in_ok-push.ensures.items (All-append IsAskedRow _ _ c.loop-word.invariant (All-cons IsAskedRow c.in_ok-row.row [] c.in_ok-row.ensures (All-nil IsAskedRow)))
