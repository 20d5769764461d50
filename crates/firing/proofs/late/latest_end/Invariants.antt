use Rattle.firing.proofs.EndLaws.{EndSoFar}
use Rattle.firing.proofs.late.latest_end.Given as goal

abbrev pub invariant-loop-v : goal.invariant-loop-v
invariant-loop-v l = EndSoFar l.q l.time l.table l.v l.latest
