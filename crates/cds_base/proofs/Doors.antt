-- The room of a door in memory, as connections are added and taken.
use Rattle.std.proofs.Common.{◌≡◌, ℕ, ◌+◌, ◌≤◌, List, [], ◌∷◌, ◌++◌, arith}
use Rattle.std.specs.List.{All}
use Rattle.std.proofs.lemmas.List.Elements.{All-push, All-rest}
use Rattle.cds_base.specs.Source.{SourceState}
use Rattle.cds_base.specs.Sink.{SinkState}
use Rattle.cds_base.specs.MemDoor.{HasRoom, IsUnused}

-- one more pair is to come, where there is room for it
pub room_added : (coming after : List (SourceState × SinkState)) (pair : SourceState × SinkState) (closed taken waiting now room : ℕ) → after ≡ coming ++ pair ∷ [] → now ≡ waiting + 1 → closed + taken + waiting + 1 ≤ room → IsUnused pair → All IsUnused coming → HasRoom after closed taken now room
room_added coming after pair closed taken waiting now room grown more fits unused had = record {
  unused = rw grown (All-push IsUnused coming pair had unused);
  fits = omega (arith, fits, more);
}

-- the first pair to come is taken
pub room_taken : (coming rest : List (SourceState × SinkState)) (pair : SourceState × SinkState) (closed taken waiting now room : ℕ) → coming ≡ pair ∷ rest → now + 1 ≡ waiting → HasRoom coming closed taken waiting room → HasRoom rest closed (taken + 1) now room
room_taken coming rest pair closed taken waiting now room first fewer had = record {
  unused = All-rest IsUnused pair rest coming first had.unused;
  fits = let fits = had.fits in omega (arith, fits, fewer);
}
