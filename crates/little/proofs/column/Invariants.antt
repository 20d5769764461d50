use Prim.Native.Nat.{◌≤◌, ◌-◌}
use mathlib.Core.Path.{◌≡◌}
use lib.ListN.{length}
use Rattle.lists.specs.Front.{front}
use Rattle.little.specs.Little.{column_at}
use Rattle.little.proofs.column.Given as goal

abbrev pub invariant-loop-i : goal.invariant-loop-i
invariant-loop-i l = (l.i ≤ l.count) × ((length l.out ≡ length l.initial.out) × (l.out ≡ front l.i (column_at l.s l.base l.step) l.initial.out))

abbrev pub decreases-loop-i : goal.decreases-loop-i
decreases-loop-i l = l.count - l.i
