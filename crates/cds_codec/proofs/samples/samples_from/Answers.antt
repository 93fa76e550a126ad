use Rattle.std.proofs.Common.{◌≡◌, [], ◌∷◌, sym, arith, to_z, of_z, w32}
use Rattle.std.proofs.lemmas.Int.{ints}
use Rattle.cds_codec.specs.Reading.{behind_at, with_front}
use Rattle.cds_codec.proofs.LoopLaws.{behind_at-more, behind_at-none, behind_at-last}
use Rattle.cds_codec.proofs.samples.samples_from.Goals as goal

pub returns-in_default : goal.returns-in_default
returns-in_default c =
    let first : to_z w32 (of_z w32 c.args.first) ≡ c.args.first = omega (arith, ints) in
    rw first at (behind_at-none c.loop.samples.items c.args.count c.loop.counter (to_z w32 c.loop.before-bits)
    c.loop.rest.now
    (with_front (to_z w32 (of_z w32 c.args.first) ∷ [])
    (behind_at c.args.count (to_z w32 (of_z w32 c.args.first)) c.args.bytes.now)) c.loop-test.true
    (sym c.in_default.ensures) c.loop.invariant)

pub loop-preserved : goal.loop-preserved
loop-preserved c =
    let whole : to_z w32 (of_z w32 c.in-Some.sample) ≡ c.in-Some.sample = omega (arith, ints) in
    rw (c.in_ok-push-2.ensures.items, whole)
    (behind_at-more c.loop.samples.items c.args.count c.loop.counter (to_z w32 c.loop.before-bits) c.in-Some.sample
    c.loop.rest.now c.in-Some.after.now
    (with_front (to_z w32 (of_z w32 c.args.first) ∷ [])
    (behind_at c.args.count (to_z w32 (of_z w32 c.args.first)) c.args.bytes.now)) c.loop-test.true
    (sym c.in-Some.ensures) c.loop.invariant)

pub returns : goal.returns
returns c =
    let first : to_z w32 (of_z w32 c.args.first) ≡ c.args.first = omega (arith, ints) in
    rw first at (behind_at-last c.loop.samples.items c.args.count c.loop.counter (to_z w32 c.loop.before-bits)
    c.loop.rest.now
    (with_front (to_z w32 (of_z w32 c.args.first) ∷ [])
    (behind_at c.args.count (to_z w32 (of_z w32 c.args.first)) c.args.bytes.now)) c.loop-test.false c.loop.invariant)
