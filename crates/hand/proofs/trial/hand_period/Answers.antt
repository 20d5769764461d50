use Rattle.std.proofs.lemmas.Result.{err_from_is_err_and}
use Rattle.refusals.specs.declared.refusal.Refusal.TheVariants.{Hand}
use Rattle.refusals.specs.Table.{hand}
use Rattle.refusals.proofs.FirstLaws.{here_now}
use Rattle.refusals.proofs.RefusedLaws.{refused, passes}
use Rattle.checks.proofs.CheckLaws.{ready_own, check_refuses, check_follows}
use Rattle.hand.specs.Hand.{hand_rows, Tried}
use Rattle.hand.proofs.trial.hand_period.Goals as goal

pub returns-in_err-checked : goal.returns-in_err-checked
returns-in_err-checked c =
    let p = err_from_is_err_and c.from_residual.result c.from_residual.ensures.1 in
    rw (p.1, p.2) (check_refuses c.in_err-checked.ensures (λ f. hand_rows f c.args.hand.now))

pub returns-then-not-fits : goal.returns-then-not-fits
returns-then-not-fits c =
    let l = c.args.hand.now in
    check_follows c.in_ok-checked.ensures (λ f. hand_rows f l) (λ f. Tried f l) (refused Hand (here_now hand (c.fits.ensures.fails c.if-not-fits.true)))

pub shifted-requires : goal.shifted-requires
shifted-requires c = (ready_own c.in_ok-checked.ensures.accepted, c.fits.ensures.holds c.if-not-fits.false)

pub returns : goal.returns
returns c =
    let l = c.args.hand.now in
    check_follows c.in_ok-checked.ensures (λ f. hand_rows f l) (λ f. Tried f l) (passes (λ place n. n (c.fits.ensures.holds c.if-not-fits.false)) c.shifted.ensures)
