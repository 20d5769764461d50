use Rattle.std.proofs.Common.{◌≡◌, refl, arith, length-take}
use Rattle.firing.proofs.FireLaws.{entry_of}
use Rattle.search.proofs.GatherLaws.{none_gathered, gathered_one, gathered_none, has_room, all_gathered}
use Rattle.search.proofs.order.gather.Goals as goal
use Rattle.search.proofs.order.gather.Goals.{then-is_between, else-is_between}

pub loop-station-init : goal.loop-station-init
loop-station-init c = none_gathered _ _ _ _ _ _ c.requires.room

pub bounds-order-place : goal.bounds-order-place
bounds-order-place c =
    let e = entry_of c.args.list.now c.args.total _ _ c.loop-station-test.true c.from-v.ensures in
    has_room _ _ _ _ _ _ c.requires c.loop-station.invariant e.0 (rw e.1 at (c.is_between.ensures.holds c.if-is_between.true))

pub loop-station-preserved : goal.loop-station-preserved
loop-station-preserved c =
    let h = c.loop-station-test.true in
    let e = entry_of c.args.list.now c.args.total _ _ h c.from-v.ensures in
    let stored = (entry_of c.args.list.now c.args.total c.loop-station.station-index _ h refl).1 in
    let told = rw e.1 at c.is_between.ensures in
    rw e.1
    (elim c.if-is_between.branch [
      | then-is_between w ↦
          rw (w.order-is, w.place-is, stored) (gathered_one _ _ _ _ _ _ c.requires c.loop-station.invariant e.0 (told.holds w.if-is_between.true))
      | else-is_between w ↦
          rw (w.order-is, w.place-is) (gathered_none _ _ _ _ _ _ c.requires c.loop-station.invariant e.0 (told.fails w.if-is_between.false))
    ])

pub returns : goal.returns
returns c =
    let all : c.loop-station.station-index ≡ c.args.total = omega (arith, length-take c.args.total c.args.list.now, c.requires.long) in
    all_gathered _ _ _ _ _ _ c.requires (rw all at c.loop-station.invariant)
