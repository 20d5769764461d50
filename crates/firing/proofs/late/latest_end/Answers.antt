use Rattle.std.proofs.Common.{arith}
use Rattle.firing.proofs.EndLaws.{place_of}
use Rattle.firing.proofs.late.latest_end.Goals as goal

pub overflow_add-place : goal.overflow_add-place
overflow_add-place c = omega (arith, place_of c.args.n c.requires c.loop-v.v c.loop-v-test.true)

pub bounds-table-place : goal.bounds-table-place
bounds-table-place c = omega (arith, place_of c.args.n c.requires c.loop-v.v c.loop-v-test.true)
