use Rattle.std.proofs.Common.{arith}
use Rattle.std.proofs.lemmas.Int.{ints}
use Rattle.cds_trace.proofs.SignalLaws.{held-read}
use Rattle.cds_trace.proofs.trace.Trace.sum.Goals as goal

pub overflow_sub-result : goal.overflow_sub-result
overflow_sub-result g c =
    let read = held-read c.self.inside c.args.self.now c.args.i c.args.j _ _ c.self.view_is c.self.invariant c.requires.order c.requires.end c.index.ensures c.index-2.ensures in
    omega (arith, ints, read)

pub returns-clause-value : goal.returns-clause-value
returns-clause-value g c =
    let read = held-read c.self.inside c.args.self.now c.args.i c.args.j _ _ c.self.view_is c.self.invariant c.requires.order c.requires.end c.index.ensures c.index-2.ensures in
    omega (arith, ints, read)

pub returns-clause-least : goal.returns-clause-least
returns-clause-least g c =
    let read = held-read c.self.inside c.args.self.now c.args.i c.args.j _ _ c.self.view_is c.self.invariant c.requires.order c.requires.end c.index.ensures c.index-2.ensures in
    omega (arith, ints, read)

pub returns-clause-greatest : goal.returns-clause-greatest
returns-clause-greatest g c =
    let read = held-read c.self.inside c.args.self.now c.args.i c.args.j _ _ c.self.view_is c.self.invariant c.requires.order c.requires.end c.index.ensures c.index-2.ensures in
    omega (arith, ints, read)
