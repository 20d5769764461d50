use native.Mathlib.Omega.{arith}
use Rattle.limbs.proofs.ValueLaws.{equal_tells}
use Rattle.balance.proofs.WalkLaws.{walk_begin, left_second_fits, right_second_fits, walk_second, left_first_fits, right_first_fits, walk_first, walk_end}
use Rattle.balance.proofs.way.Tree.agrees.Goals as goal

pub loop-i-init : goal.loop-i-init
loop-i-init c =
    rw (c.from-left.ensures, c.from-right.ensures) (walk_begin _ _ _ _ _ c.requires.places.0 c.requires.places.1 c.requires.rates.0 c.requires.rates.1)

pub times-requires-clause-fits : goal.times-requires-clause-fits
times-requires-clause-fits c = left_second_fits c.args.self.now.fits c.loop-i.invariant c.if-i-j.true

pub times-requires-then-i-j-clause-fits : goal.times-requires-then-i-j-clause-fits
times-requires-then-i-j-clause-fits c = right_second_fits c.args.self.now.fits c.loop-i.invariant c.if-i-j.true

pub loop-i-preserved-then-i-j : goal.loop-i-preserved-then-i-j
loop-i-preserved-then-i-j c =
    rw (c.times.ensures, c.times-then-i-j.ensures) (walk_second c.args.self.now.fits c.loop-i.invariant c.if-i-j.true)

pub times-requires-else-i-j-clause-fits : goal.times-requires-else-i-j-clause-fits
times-requires-else-i-j-clause-fits c = left_first_fits c.args.self.now.fits c.loop-i.invariant (omega arith)

pub times-requires-else-i-j-2-clause-fits : goal.times-requires-else-i-j-2-clause-fits
times-requires-else-i-j-2-clause-fits c =
    right_first_fits c.args.self.now.fits c.loop-i.invariant (omega arith)

pub loop-i-preserved : goal.loop-i-preserved
loop-i-preserved c =
    rw (c.times-else-i-j.ensures, c.times-else-i-j-2.ensures) (walk_first c.args.self.now.fits c.loop-i.invariant (omega arith))

pub returns : goal.returns
returns c =
    walk_end c.args.self.now.fits c.loop-i.invariant c.requires.rates.0 c.loop-i-test.false _ (equal_tells _ _ _ c.eq.ensures)
