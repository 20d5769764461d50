use Rattle.std.proofs.Common.{rules, tests}
use Rattle.std.proofs.lemmas.Iterator.{cases_from_all, YieldsList-from_slice}
use Rattle.dataflow.specs.Refusals.{InHandRange}
use Rattle.checks.specs.Check.{sheet_in}
use Rattle.hand.proofs.TrialLaws.{fits_told}
use Rattle.hand.proofs.trial.fits.Goals as goal

pub returns-then-hand-checked : goal.returns-then-hand-checked
returns-then-hand-checked c =
    fits_told (sheet_in c.args.checked.now) _ c.if-hand-checked.true _
    (cases_from_all _ _ _ InHandRange (λ x. ¬ InHandRange x) c.all.ensures.ran (YieldsList-from_slice c.args.hand.now cc) (λ x q k. search (rules, tests)) (λ x q k. search (rules, tests)))
