use Prim.Native.Nat.{◌*◌, ◌≤◌}
use mathlib.Core.Path.{refl}
use native.Mathlib.Nat.{mul-le-mul}
use native.Mathlib.Omega.{arith}
use lib.ListN.{length-set}
use Rattle.lists.specs.Front.{at}
use Rattle.lists.proofs.FilledLaws.{filled_none, filled_more}
use Rattle.retimed.proofs.back.start_firings.Goals as goal

pub loop-v-init : goal.loop-v-init
loop-v-init c = record { long = refl; filled = filled_none 32 }

pub overflow_mul-firings : goal.overflow_mul-firings
overflow_mul-firings c =
    let small : c.args.back * at c.args.q.now c.loop-v.v ≤ 65280 = let a = c.requires in mul-le-mul a.1.1 (a.0.counts c.loop-v.v c.loop-v-test.true) in
    omega arith

pub overflow_sub-firings : goal.overflow_sub-firings
overflow_sub-firings c = omega (arith, c.requires.1.0 c.loop-v.v c.loop-v-test.true)

pub loop-v-preserved : goal.loop-v-preserved
loop-v-preserved c =
    let covered : at c.args.retiming.now c.loop-v.v ≤ c.args.back * at c.args.q.now c.loop-v.v = c.requires.1.0 c.loop-v.v c.loop-v-test.true in
    record { long = simp length-set c.loop-v.invariant.long; filled = filled_more _ (omega arith) (omega arith) c.loop-v.invariant.filled }
