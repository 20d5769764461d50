use Prim.Native.Nat.{ℕ, ◌<◌}
use Rattle.firing.specs.Scan.{Can}
use Rattle.firing.proofs.scan.ready.Given as goal

abbrev pub invariant-loop-v : goal.invariant-loop-v
invariant-loop-v l =
    (w : ℕ) → w < l.v → Can l.chain.m l.chain.source l.chain.sink l.chain.produced l.chain.consumed l.delay l.wanted l.fired w → ⊥
