use Prim.Native.Nat.{◌-◌}
use Rattle.counts.proofs.RaiseLaws.{Raising}
use Rattle.counts.proofs.raising.counts.Given as goal

abbrev pub invariant-loop-total : goal.invariant-loop-total
invariant-loop-total l =
    Raising l.chain.n l.chain.m l.chain.source l.chain.sink l.chain.produced l.chain.consumed l.q l.total

abbrev pub decreases-loop-total : goal.decreases-loop-total
decreases-loop-total l = 257 - l.total
