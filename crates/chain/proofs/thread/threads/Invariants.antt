use Prim.Native.Nat.{◌≤◌}
use mathlib.Core.Path.{◌≡◌}
use lib.ListN.{length}
use Rattle.chain.proofs.ThreadLaws.{Threading}
use Rattle.chain.proofs.thread.threads.Given as goal

abbrev pub invariant-loop-e : goal.invariant-loop-e
invariant-loop-e l =
    (l.e ≤ l.m) × ((length l.head ≡ 32) × ((length l.next ≡ 64) × Threading 32 l.m l.ends l.head l.next l.e))

abbrev pub decreases-loop-e : goal.decreases-loop-e
decreases-loop-e l = l.e
