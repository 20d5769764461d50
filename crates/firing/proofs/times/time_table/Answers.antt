use Rattle.std.proofs.Common.{◌≡◌, arith, length-take}
use Rattle.lists.specs.Front.{at}
use Rattle.firing.specs.Walk.{Walkable}
use Rattle.firing.proofs.FireLaws.{entry_of}
use Rattle.firing.proofs.PushLaws.{few_copies}
use Rattle.firing.proofs.WalkedLaws.{none_walked, walkable, step_walked, all_walked}
use Rattle.firing.proofs.times.time_table.Goals as goal
use Rattle.firing.proofs.times.time_table.Goals.{After-from-v}

next : (c : After-from-v) → Walkable c.args.round.now.chain.n c.args.delay.now c.args.round.now.q c.from-v.result (at c.loop-station.fired c.from-v.result) c.loop-station.table
next c =
    let e = entry_of c.args.list.now c.args.round.now.total _ _ c.loop-station-test.true c.from-v.ensures in
    walkable _ _ _ _ _ _ _ _ _ _ _ c.args.round.now.counted c.requires.1 _ e.0 c.loop-station.invariant _ e.1 c.requires.0

pub loop-station-init : goal.loop-station-init
loop-station-init c = none_walked _ _ _ _ _ _ _ _ _ _ _

pub bounds-fired-v : goal.bounds-fired-v
bounds-fired-v c = let w = next (goal.at.bounds-fired-v c).After-from-v in omega (arith, w.here, c.args.round.now.chain.fits.few)

pub walk_copy-requires : goal.walk_copy-requires
walk_copy-requires c = next (goal.at.walk_copy-requires c).After-from-v

pub overflow_add-fired : goal.overflow_add-fired
overflow_add-fired c = let w = next (goal.at.overflow_add-fired c).After-from-v in omega (arith, w.left, few_copies c.args.round.now c.from-v.result)

pub bounds-fired-v-in-loop-station : goal.bounds-fired-v-in-loop-station
bounds-fired-v-in-loop-station c = let w = next (goal.at.bounds-fired-v-in-loop-station c).After-from-v in omega (arith, w.here, c.args.round.now.chain.fits.few)

pub loop-station-preserved : goal.loop-station-preserved
loop-station-preserved c =
    let e = entry_of c.args.list.now c.args.round.now.total _ _ c.loop-station-test.true c.from-v.ensures in
    step_walked _ _ _ _ _ _ _ _ _ _ _ c.args.round.now.counted c.requires.1 _ e.0 c.loop-station.invariant _ e.1 c.walk_copy.ensures

pub returns : goal.returns
returns c =
    let all : c.loop-station.station-index ≡ c.args.round.now.total = omega (arith, length-take c.args.round.now.total c.args.list.now, c.requires.1.long) in
    all_walked _ _ _ _ _ _ _ _ _ _ _ c.args.round.now.counted c.requires.1 (rw all at c.loop-station.invariant)
