use Prim.Native.Nat.{◌-◌}
use Rattle.firing.proofs.ScanLaws.{FedBelow}
use Rattle.firing.proofs.scan.fed.Given as goal

abbrev pub invariant-loop-e : goal.invariant-loop-e
invariant-loop-e l =
    FedBelow l.chain.m l.chain.source l.chain.sink l.chain.produced l.chain.consumed l.delay l.fired l.v l.e

abbrev pub decreases-loop-e : goal.decreases-loop-e
decreases-loop-e l = l.chain.m - l.e
