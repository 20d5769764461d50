use Rattle.search.proofs.GatherLaws.{Gathered}
use Rattle.search.proofs.order.gather.Given as goal

abbrev pub invariant-loop-station : goal.invariant-loop-station
invariant-loop-station l =
    Gathered l.total l.low l.high l.list l.from l.initial.order l.order l.fired l.place l.station-index
