use Rattle.std.proofs.Common.{◌≡◌, length}
use Rattle.firing.specs.Late.{LateCounts}
use Rattle.firing.proofs.late.late_counts.Given as goal

abbrev pub invariant-loop-v : goal.invariant-loop-v
invariant-loop-v l = (length l.late ≡ 32) × LateCounts l.v l.q l.time l.target l.table l.late
