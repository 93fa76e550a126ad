use Rattle.std.proofs.Common.{refl}
use Rattle.cds_book.proofs.RoomLaws.{draft-reserved, made-reserved, signed-reserved}
use Rattle.cds_book.proofs.tables.Tables.reserve.Goals as goal

pub reserve_freeze-requires-clause-method : goal.reserve_freeze-requires-clause-method
reserve_freeze-requires-clause-method c = draft-reserved c.self.inside _ c.args.change.now _ _ c.self.view_is c.requires c.in-Freeze.is

pub reserve_sequence-requires-clause-made : goal.reserve_sequence-requires-clause-made
reserve_sequence-requires-clause-made c = made-reserved c.self.inside _ c.args.change.now _ _ c.self.view_is c.self.invariant c.requires c.in-Sequence.is refl

pub reserve_sequence-requires-in-Events-clause-made : goal.reserve_sequence-requires-in-Events-clause-made
reserve_sequence-requires-in-Events-clause-made c = made-reserved c.self.inside _ c.args.change.now _ _ c.self.view_is c.self.invariant c.requires c.in-Events.is refl

pub reserve_sequence-requires-in-Rebind-clause-made : goal.reserve_sequence-requires-in-Rebind-clause-made
reserve_sequence-requires-in-Rebind-clause-made c = made-reserved c.self.inside _ c.args.change.now _ _ c.self.view_is c.self.invariant c.requires c.in-Rebind.is refl

pub signed_now-requires : goal.signed_now-requires
signed_now-requires c = record { there = signed-reserved c.self.inside _ c.args.change.now _ _ c.self.view_is c.requires c.in-Sign.is refl }
