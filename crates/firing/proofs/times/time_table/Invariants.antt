use Rattle.firing.proofs.WalkedLaws.{WalkedSoFar}
use Rattle.firing.proofs.times.time_table.Given as goal

abbrev pub invariant-loop-station : goal.invariant-loop-station
invariant-loop-station l =
    WalkedSoFar l.round.chain.n l.round.chain.m l.round.chain.source l.round.chain.sink l.round.chain.produced l.round.chain.consumed l.delay l.time l.round.q l.round.total l.list l.table l.fired l.station-index
