use Prim.Native.Nat.{◌-◌}
use Rattle.firing.proofs.PushLaws.{PushedBelow}
use Rattle.firing.proofs.walk.push.Given as goal

abbrev pub invariant-loop-e : goal.invariant-loop-e
invariant-loop-e l =
    PushedBelow l.chain.m l.chain.source l.chain.sink l.chain.produced l.chain.consumed l.delay l.round.q l.v l.copy l.finish l.initial.table l.e l.table

abbrev pub decreases-loop-e : goal.decreases-loop-e
decreases-loop-e l = l.chain.m - l.e
