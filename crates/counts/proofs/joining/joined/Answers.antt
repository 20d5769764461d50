use mathlib.Core.Path.{refl}
use Rattle.lists.proofs.TestLaws.{tells_true, tells_false}
use Rattle.counts.proofs.MarkLaws.{mark_first, mark_next, all_joined, not_joined}
use Rattle.counts.proofs.joining.joined.Goals as goal

pub loop-count-init : goal.loop-count-init
loop-count-init c = mark_first _ _ _ _ c.requires.some

pub returns-in_default : goal.returns-in_default
returns-in_default c =
    tells_false refl (not_joined _ _ _ _ _ _ c.loop-count.invariant c.requires.some c.loop-count-test.true c.in_default.ensures)

pub loop-count-preserved : goal.loop-count-preserved
loop-count-preserved c = mark_next _ _ _ _ _ _ c.loop-count.invariant _ c.in-Some.ensures c.requires

pub returns : goal.returns
returns c = tells_true refl (all_joined _ _ _ _ _ _ c.loop-count.invariant c.loop-count-test.false)
