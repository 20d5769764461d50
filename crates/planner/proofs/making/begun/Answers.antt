use Rattle.planner.proofs.WorkLaws.{small, back_small, firing_small}
use Rattle.planner.proofs.making.begun.Goals as goal

pub back_of-back-requires : goal.back_of-back-requires
back_of-back-requires c = small c.requires

pub start_firings-firings-requires : goal.start_firings-firings-requires
start_firings-firings-requires c = let p = c.requires in (small p, (c.back_of-back.ensures.covers, back_small p c.back_of-back.ensures))

pub add-starts-requires : goal.add-starts-requires
add-starts-requires c =
    let p = c.requires in
    (c.args.checked.now.round.chain.fits.few, λ v h. firing_small p c.back_of-back.ensures c.start_firings-firings.ensures v)
