use Rattle.search.proofs.UnderwayLaws.{Underway}
use Rattle.search.proofs.rounds.search.Given as goal

abbrev pub invariant-loop-rounds : goal.invariant-loop-rounds
invariant-loop-rounds l =
    Underway l.round.chain.n l.round.chain.m l.round.chain.source l.round.chain.sink l.round.chain.produced l.round.chain.consumed l.delay l.time l.round.q l.round.total l.target l.retiming l.current l.order l.rounds
