use Rattle.std.proofs.lemmas.Result.{err_from_is_err_and}
use Rattle.checks.specs.Check.{sheet_in}
use Rattle.hand.proofs.TrialLaws.{negative_refused, timeable, slow_refused, tried}
use Rattle.hand.proofs.trial.shifted.Goals as goal

pub returns-in_err-new_delays : goal.returns-in_err-new_delays
returns-in_err-new_delays c =
    let p = err_from_is_err_and c.from_residual.result c.from_residual.ensures.1 in
    rw (p.1, p.2) (negative_refused (sheet_in c.args.checked.now) c.args.hand.now c.in_err-new_delays.ensures)

pub period_with-period-requires : goal.period_with-period-requires
period_with-period-requires c = timeable c.requires.0 c.in_ok-new_delays.ensures.accepted c.requires.1

pub returns-then-period-checked : goal.returns-then-period-checked
returns-then-period-checked c = slow_refused c.requires.0 c.in_ok-new_delays.ensures.accepted c.period_with-period.ensures c.if-period-checked.true

pub returns : goal.returns
returns c = tried c.requires.0 c.in_ok-new_delays.ensures.accepted c.period_with-period.ensures c.if-period-checked.false
