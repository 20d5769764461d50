use Rattle.std.proofs.Common.{◌+◌, ◌≤◌, arith, ap, ◌∙◌}
use Rattle.lists.specs.Front.{at}
use Rattle.firing.proofs.PushLaws.{push_given, placed}
use Rattle.firing.proofs.walk.push.Goals as goal

pub loop-e-preserved : goal.loop-e-preserved
loop-e-preserved c =
    let round = c.args.round.now in
    let e = c.loop-e.e in
    let h = c.loop-e-test.true in
    let enters = round.chain.fits.enters e h in
    let fits : at round.base c.from-w.result + at round.q c.from-w.result ≤ 256 = placed round c.from-w.result (omega (arith, c.from-w.ensures, enters)) in
    rw c.from-e-in-loop-e.ensures
    (push_given _ _ _ _ _ _ _ _ _ _ _ e h (round.chain.leaves.more e h) c.loop-e.invariant _ _ _ _
    (rw c.from.ensures at c.first_token-token.ensures)
    c.from-in-loop-e.ensures
    (ap (at round.base) c.from-w.ensures ∙ round.begins.is _ (omega (arith, enters)))
    (ap (at round.q) c.from-w.ensures)
    (round.chain.fits.takes e h)
    (omega (arith, fits, c.loop-e.invariant.pushes.long, c.requires.long))
    c.give.ensures)
