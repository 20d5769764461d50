use Rattle.firing.proofs.FireLaws.{SoFar}
use Rattle.firing.proofs.fire.fire_list.Given as goal

abbrev pub invariant-loop-k : goal.invariant-loop-k
invariant-loop-k l =
    SoFar l.chain.n l.chain.m l.chain.source l.chain.sink l.chain.produced l.chain.consumed l.delay l.wanted l.total l.initial.list l.list l.fired l.k
