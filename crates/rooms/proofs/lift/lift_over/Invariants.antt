use Prim.Native.Nat.{◌-◌, ◌≤◌, ◌<◌}
use mathlib.Core.Path.{◌≡◌}
use lib.ListN.{length}
use Rattle.rooms.specs.Lifted.{Lifted, Peaks}
use Rattle.rooms.proofs.FiredLaws.{FiredSoFar}
use Rattle.rooms.proofs.lift.lift_over.Given as goal

abbrev pub invariant-loop-k : goal.invariant-loop-k
invariant-loop-k l = record {
  within : l.k ≤ length l.list;
  long : length l.room ≡ 64;
  so_far : FiredSoFar l.chain.n l.chain.m l.chain.source l.chain.sink l.chain.produced l.chain.consumed l.delay (length l.list) l.list l.fired l.k;
  lifted : Lifted (λ e. e < l.chain.m) (Peaks l.chain.n l.chain.m l.chain.source l.chain.sink l.chain.produced l.chain.consumed l.delay l.k l.list) l.initial.room l.room;
}

abbrev pub decreases-loop-k : goal.decreases-loop-k
decreases-loop-k l = length l.list - l.k
