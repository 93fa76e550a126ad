use Rattle.std.proofs.Common.{◌≡◌, ◌-◌}
use Rattle.cds_codec.specs.Reading.{items_at, with_front}
use Rattle.cds_codec.proofs.items.items_at.Given as goal

abbrev pub invariant-loop : goal.invariant-loop
invariant-loop g l =
    with_front l.items.items (items_at g.T.Item.read (l.count - l.counter) l.rest)
    ≡ items_at g.T.Item.read l.count l.bytes
