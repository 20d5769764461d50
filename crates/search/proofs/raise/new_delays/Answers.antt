use Rattle.std.proofs.Common.{refl, arith, length-set}
use Rattle.lists.proofs.FilledLaws.{filled_none, filled_more}
use Rattle.search.proofs.raise.new_delays.Goals as goal

pub loop-e-init : goal.loop-e-init
loop-e-init c = (refl, filled_none 64)

pub loop-e-preserved : goal.loop-e-preserved
loop-e-preserved c =
    let fits = c.requires.fits c.loop-e.e c.loop-e-test.true in (
      simp length-set c.loop-e.invariant.0,
      filled_more _ (omega (arith, c.requires.few))
          (rw (c.from.ensures, c.from-in-loop-e.ensures, c.from-in-loop-e-2.ensures, c.from-in-loop-e-3.ensures) (omega (arith, fits.legal)))
          c.loop-e.invariant.1,
    )
