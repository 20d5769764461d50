use Prim.Native.Nat.{◌-◌}
use mathlib.Core.Path.{◌≡◌}
use lib.ListN.{length}
use Rattle.rooms.specs.Lifted.{HoldsBy}
use Rattle.rooms.proofs.OutLaws.{LiftedBelow}
use Rattle.rooms.proofs.lift.lift_from.Given as goal

abbrev pub invariant-loop-e : goal.invariant-loop-e
invariant-loop-e l = record {
  long : length l.room ≡ 64;
  so_far : LiftedBelow l.chain.m l.chain.source l.v (HoldsBy l.chain.source l.chain.sink l.chain.produced l.chain.consumed l.delay l.fired) l.initial.room l.e l.room;
}

abbrev pub decreases-loop-e : goal.decreases-loop-e
decreases-loop-e l = l.chain.m - l.e
