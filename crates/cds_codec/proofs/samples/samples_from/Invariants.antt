use Rattle.std.proofs.Common.{◌≡◌, ◌-◌, ◌∷◌, []}
use Rattle.cds_codec.specs.Reading.{behind_at, with_front}
use Rattle.cds_codec.proofs.samples.samples_from.Given as goal

abbrev pub invariant-loop : goal.invariant-loop
invariant-loop l = with_front l.samples.items (behind_at (l.count - l.counter) l.before l.rest)
    ≡ with_front (l.first ∷ []) (behind_at l.count l.first l.bytes)
