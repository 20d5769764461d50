use Rattle.planner.proofs.CompleteLaws.{round_completes, start_completes}
use Rattle.planner.proofs.WorkLaws.{round_fireable, start_fireable}
use Rattle.planner.proofs.making.write.Goals as goal

pub write_list-requires : goal.write_list-requires
write_list-requires c = let p = c.requires in (start_fireable p.0, (p.1.start_room, start_completes p.0))

pub write_list-requires-2 : goal.write_list-requires-2
write_list-requires-2 c = let p = c.requires in (round_fireable p.0.retimed, (p.1.round_room, round_completes p.0.retimed))
