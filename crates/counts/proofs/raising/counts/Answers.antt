use mathlib.Core.Path.{refl}
use Rattle.counts.proofs.RaiseLaws.{raise_begin, counts_small, raise_next, none_fits}
use Rattle.counts.proofs.raising.counts.Goals as goal

pub loop-total-init : goal.loop-total-init
loop-total-init c = raise_begin _ _ _ _ _ _ _ c.ones-q.ensures

pub lowest_unmet-requires : goal.lowest_unmet-requires
lowest_unmet-requires c = counts_small _ _ _ _ _ _ _ _ c.loop-total.invariant c.loop-total-test.true

pub raise-station-requires-clause-small : goal.raise-station-requires-clause-small
raise-station-requires-clause-small c = counts_small _ _ _ _ _ _ _ _ c.loop-total.invariant c.loop-total-test.true

pub loop-total-preserved : goal.loop-total-preserved
loop-total-preserved c =
    raise_next _ _ _ _ _ _ _ _ c.loop-total.invariant _ _ _ c.args.chain.now.fits (c.in-Some.ensures.inside _ refl) c.raise-station.ensures.raised

pub returns : goal.returns
returns c = none_fits _ _ _ _ _ _ _ _ c.loop-total.invariant c.loop-total-test.false
