use Prim.Native.Nat.{◌+◌}
use Rattle.balance.proofs.WalkLaws.{Walked}
use Rattle.balance.proofs.way.Tree.agrees.Given as goal

abbrev pub invariant-loop-i : goal.invariant-loop-i
invariant-loop-i l = Walked l.self.steps l.a l.b l.produced l.consumed l.i l.j l.left l.right

abbrev pub decreases-loop-i : goal.decreases-loop-i
decreases-loop-i l = l.i + l.j
