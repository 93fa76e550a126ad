use Rattle.std.proofs.Common.{sym}
use Rattle.cds_codec.specs.Reading.{items_at}
use Rattle.cds_codec.proofs.LoopLaws.{items_at-more, items_at-none, items_at-last}
use Rattle.cds_codec.proofs.items.items_at.Goals as goal

pub returns-in_default : goal.returns-in_default
returns-in_default g c =
    let e = rw c.in_default.is at c.in_ok-item.ensures in
    items_at-none g.T.Item.read c.loop.items.items c.args.count c.loop.counter c.loop.rest.now
    (items_at g.T.Item.read c.args.count c.args.bytes.now) c.loop-test.true (sym e) c.loop.invariant

pub loop-preserved : goal.loop-preserved
loop-preserved g c =
    let e = rw c.in-Some.is at c.in_ok-item.ensures in
    rw c.in_ok-push.ensures.items
    (items_at-more g.T.Item.read c.loop.items.items c.args.count c.loop.counter c.in-Some.item c.loop.rest.now
    c.in-Some.after.now (items_at g.T.Item.read c.args.count c.args.bytes.now) c.loop-test.true (sym e)
    c.loop.invariant)

pub returns : goal.returns
returns g c = items_at-last g.T.Item.read c.loop.items.items c.args.count c.loop.counter c.loop.rest.now
    (items_at g.T.Item.read c.args.count c.args.bytes.now) c.loop-test.false c.loop.invariant
