use Rattle.balance.proofs.GrowLaws.{Growing}
use Rattle.balance.proofs.reaching.reach.Given as goal

abbrev pub invariant-loop-count : goal.invariant-loop-count
invariant-loop-count l =
    Growing l.chain.n l.chain.m l.chain.source l.chain.sink l.chain.produced l.chain.consumed l.marked l.place l.steps l.count
