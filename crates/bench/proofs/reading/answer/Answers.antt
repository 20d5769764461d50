use Rattle.std.proofs.Common.{arith}
use Rattle.sheet.proofs.ReadLaws.{accepted_counts}
use Rattle.bench.proofs.reading.answer.Goals as goal

pub stations-requires : goal.stations-requires
stations-requires g c = omega (arith, accepted_counts _ _ c.in_ok-sheet.ensures)

pub queues-requires : goal.queues-requires
queues-requires g c = omega (arith, accepted_counts _ _ c.in_ok-sheet.ensures)
