use Rattle.std.proofs.Common.{◌≡◌, ◌∙◌, refl, sym, ap}
use Rattle.std.proofs.Common.{◌+◌, arith}
use Rattle.cds_graph.specs.Building.{after}
use Rattle.cds_graph.specs.HeldGraph.{rows_shown}
use Rattle.cds_graph.proofs.PoolLaws.{row-steps_take}
use Rattle.cds_graph.proofs.rows.kept_rows.Goals as goal

pub returns-in_err-add_row-clause-most : goal.returns-in_err-add_row-clause-most
returns-in_err-add_row-clause-most g c =
    omega (
      arith,
      c.add_row.ensures.most,
      c.loop-place.invariant.most,
      row-steps_take (after c.args.source.now) (rows_shown c.args.kept.now) c.args.keys.now (c.loop-place.place + 1),
    )
