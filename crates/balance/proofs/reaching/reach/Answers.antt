use Rattle.balance.proofs.GrowLaws.{grow_first, leads, grow_next, all_grown}
use Rattle.balance.proofs.reaching.reach.Goals as goal

pub loop-count-init : goal.loop-count-init
loop-count-init c = grow_first _ _ _ _ _ _ c.args.chain.now.fits

pub unwrap-crossed-requires : goal.unwrap-crossed-requires
unwrap-crossed-requires c =
    leads _ _ _ _ _ _ c.args.chain.now.fits _ _ _ _ c.loop-count.invariant c.requires c.loop-count-test.true _ c.lowest_crossing.ensures

pub loop-count-preserved : goal.loop-count-preserved
loop-count-preserved c =
    grow_next _ _ _ _ _ _ c.args.chain.now.fits _ _ _ _ c.loop-count.invariant c.loop-count-test.true _ (rw c.unwrap-crossed.ensures at c.lowest_crossing.ensures) _ c.sees-station.ensures

pub returns : goal.returns
returns c = all_grown _ _ _ _ _ _ c.args.chain.now.fits _ _ _ _ c.loop-count.invariant c.loop-count-test.false
