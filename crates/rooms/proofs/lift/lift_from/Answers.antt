use mathlib.Core.Path.{◌≡◌}
use native.Mathlib.Omega.{arith}
use lib.ListN.{length-set}
use Rattle.lists.specs.Front.{at}
use Rattle.rooms.proofs.OutLaws.{below_more}
use Rattle.rooms.proofs.lift.lift_from.Goals as goal

pub loop-e-preserved : goal.loop-e-preserved
loop-e-preserved c =
    let chain = c.args.chain.now in
    let inv = c.loop-e.invariant in
    let e = c.loop-e.e in
    let leaves : at chain.source e ≡ c.args.v = inv.so_far.goes c.loop-e-test.true in
    let holds = rw (c.from-w.ensures, c.from.ensures, c.from-in-loop-e.ensures) at c.tokens-fill.ensures in
    record {
      long = simp length-set inv.long;
      so_far = below_more _ _ _ _ _ c.tokens-fill.result _ c.loop-e-test.true (omega (arith, chain.fits.few_queues)) (rw leaves holds) c.max.ensures
          (rw c.from-e-in-loop-e.ensures (chain.leaves.more e c.loop-e-test.true)) inv.so_far;
    }
