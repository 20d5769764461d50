use mathlib.Core.Path.{◌≡◌}
use native.Mathlib.Omega.{arith}
use Rattle.firing.proofs.FireLaws.{none_fired_lem, fired_few, one_more, stalled, completed}
use Rattle.firing.proofs.fire.fire_list.Goals as goal

pub loop-k-init : goal.loop-k-init
loop-k-init c = none_fired_lem _ _ _ _ _ _ _ _ _ _

pub ready-requires : goal.ready-requires
ready-requires c = record { delays = c.requires.0; firings = fired_few _ _ _ _ _ _ _ _ _ _ c.loop-k.invariant c.requires.1.0 }

pub returns-in_default : goal.returns-in_default
returns-in_default c = stalled _ _ _ _ _ _ _ _ _ _ c.loop-k.invariant c.loop-k-test.true c.in_default.ensures c.requires.1.0

pub loop-k-preserved : goal.loop-k-preserved
loop-k-preserved c = one_more _ _ _ _ _ _ _ _ _ _ c.loop-k.invariant _ c.args.chain.now.fits.few c.in-Some.ensures

pub returns : goal.returns
returns c =
    let all : c.loop-k.k ≡ c.args.total = omega arith in
    completed _ _ _ _ _ _ _ _ _ _ (rw all at c.loop-k.invariant) c.requires.1.0
