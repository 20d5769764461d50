use Rattle.refusals.specs.declared.refusal.Refusal.TheVariants.{Stuck}
use Rattle.refusals.proofs.RefusedLaws.{refused, given, passes}
use Rattle.checks.proofs.CheckLaws.{stuck_refused, fires_passed, is_ready}
use Rattle.checks.proofs.judge.fired.Goals as goal

pub returns-then-not-fire_list : goal.returns-then-not-fire_list
returns-then-not-fire_list c = refused Stuck (stuck_refused c.requires.0 c.requires.1 c.widened-delay.ensures c.fire_list.ensures c.if-not-fire_list.true)

pub returns : goal.returns
returns c =
    let fires = c.if-not-fire_list.false in
    passes (fires_passed c.requires.0 c.requires.1 c.widened-delay.ensures c.fire_list.ensures fires)
    (given _ (is_ready c.requires.0 c.requires.1 c.widened-delay.ensures c.fire_list.ensures fires))
