use Rattle.cds_base.proofs.Doors.{room_taken}
use Rattle.cds_base.proofs.mem_door.MemDoorDoor.next.Goals as goal

pub invariant_of-self-2 : goal.invariant_of-self-2
invariant_of-self-2 c = room_taken _ _ _ _ _ _ _ _ c.in-Some.ensures.items c.in-Some.ensures.len c.self.invariant
