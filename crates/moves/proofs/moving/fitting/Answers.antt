use mir.Facts.{to_z-of_z}
use Rattle.chain.proofs.ChainLaws.{count_few}
use Rattle.moves.proofs.MovingLaws.{no_move, goes}
use Rattle.moves.proofs.moving.fitting.Goals as goal

pub returns-then-not-there : goal.returns-then-not-there
returns-then-not-there c = no_move c.requires _ _ _ ((rw (to_z-of_z c.ranges.r) at c.there.ensures).fails c.if-not-there.true)

pub moved-requires : goal.moved-requires
moved-requires c =
    let asked = c.there.ensures.holds c.if-not-there.false in
    (asked.copy.low, (asked.copy.high, (count_few c.args.checked.now.round.counted _, asked.in_range)))

pub returns : goal.returns
returns c =
    goes c.requires _ _ _ ((rw (to_z-of_z c.ranges.r) at c.there.ensures).holds c.if-not-there.false) (rw (to_z-of_z c.ranges.r) at c.moved.ensures)
