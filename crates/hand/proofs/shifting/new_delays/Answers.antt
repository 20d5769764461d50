use Rattle.std.proofs.Common.{◌≡◌, refl, arith, length-set}
use Rattle.lists.proofs.FilledLaws.{filled_none, filled_more}
use Rattle.checks.specs.Check.{sheet_in}
use Rattle.hand.proofs.ShiftLaws.{short_refused, all_left, entry_is}
use Rattle.hand.proofs.shifting.new_delays.Goals as goal

pub loop-e-init : goal.loop-e-init
loop-e-init c = (refl, filled_none 64)

pub returns-in_default : goal.returns-in_default
returns-in_default c =
    short_refused (sheet_in c.args.checked.now) _ c.loop-e-test.true c.loop-e.invariant.1
    (simp (entry_is (sheet_in c.args.checked.now) c.requires.1, c.from.ensures, c.from-in-loop-e.ensures, c.from-in-loop-e-2.ensures, c.from-in-loop-e-3.ensures) at c.in_default.ensures)

pub loop-e-preserved : goal.loop-e-preserved
loop-e-preserved c =
    let h = simp (entry_is (sheet_in c.args.checked.now) c.requires.1, c.from.ensures, c.from-in-loop-e.ensures, c.from-in-loop-e-2.ensures, c.from-in-loop-e-3.ensures) at c.in-Some.ensures in
    (simp length-set c.loop-e.invariant.0, filled_more _ (omega (arith, c.loop-e.invariant.0, c.args.checked.now.round.chain.fits.few_queues)) h c.loop-e.invariant.1)

pub returns : goal.returns
returns c =
    let all : c.loop-e.e ≡ c.args.checked.now.round.chain.m = omega arith in
    all_left (sheet_in c.args.checked.now) _ (rw all at c.loop-e.invariant.1)
