use Rattle.std.proofs.Common.{◌≡◌, inl, arith, rules}
use Rattle.cds_desk.proofs.SessionLaws.{opened_is_whole}
use Rattle.cds_desk.proofs.TurnLaws.{at_most}
use Rattle.cds_desk.proofs.serve.serve.Goals as goal

pub returns-clause-ran : goal.returns-clause-ran
returns-clause-ran g c =
    let serving = c.serve_door.ensures in
    record {
      ran = inl (record {
        keeper = g.K.Keeper.told c.open_store.new.keeper;
        state = c.in-Ok.desk;
        steps = c.open_store.new.steps;
        opened = c.in-Ok.ensures.opened;
        after = c.serve_door.new.self;
        listens = serving.serves;
        quiet = c.in-Ok.ensures.quiet;
        stays_open = serving.stays_open;
        finds_more = λ name. (serving.finds name).more (at_most _ _ (c.in-Ok.ensures.finds name));
      });
      damaged_only = opened_is_whole _ _ _ _ _ _ c.serve_door.result c.in-Ok.ensures.opened;
      keeper_counts = omega (arith, c.open_store.ensures.counts.1, serving.counts.0);
    }
