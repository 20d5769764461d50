use native.Mathlib.Omega.{arith}
use Rattle.rooms.proofs.RoomLaws.{new_covered, rooms_are}
use Rattle.rooms.proofs.room.rooms.Goals as goal

pub lift_over-requires : goal.lift_over-requires
lift_over-requires c = (c.requires.start_list, λ e h. omega arith)

pub lift_over-requires-2 : goal.lift_over-requires-2
lift_over-requires-2 c = (c.requires.round_list, new_covered c.requires c.lift_over.ensures)

pub returns : goal.returns
returns c = rooms_are c.requires c.lift_over.ensures c.lift_over-2.ensures
