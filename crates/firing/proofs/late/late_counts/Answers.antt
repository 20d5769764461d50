use Rattle.std.proofs.Common.{◌+◌, ◌-◌, ◌≤◌, refl, arith, length-set, length-take}
use Rattle.lists.specs.Front.{at}
use Rattle.lists.proofs.FilledLaws.{filled_none, filled_more}
use Rattle.firing.proofs.EndLaws.{next_place, small_starts, lates_of_station}
use Rattle.firing.proofs.late.late_counts.Goals as goal

pub loop-v-init : goal.loop-v-init
loop-v-init c = (refl, filled_none 32)

pub slice_bounds-starts-end : goal.slice_bounds-starts-end
slice_bounds-starts-end c = omega (arith, next_place c.args.n c.requires c.loop-v.v c.loop-v-test.true)

pub late_of-requires : goal.late_of-requires
late_of-requires c =
    let few : at c.args.base.now (c.loop-v.v + 1) - at c.args.base.now c.loop-v.v ≤ 256 = omega (arith, next_place c.args.n c.requires c.loop-v.v c.loop-v-test.true) in
    (simp length-take (omega arith), (omega (arith, c.from.ensures, c.fits-time c.loop-v.v), small_starts c.args.n c.requires _ _))

pub loop-v-preserved : goal.loop-v-preserved
loop-v-preserved c = (
  simp length-set c.loop-v.invariant.0,
  filled_more c.late_of.result (omega (arith, c.requires.few))
      (lates_of_station c.args.n c.requires c.told-table c.args.time.now c.args.target c.loop-v.v c.from.result c.late_of.result c.loop-v-test.true c.from.ensures c.late_of.ensures)
      c.loop-v.invariant.1,
)
