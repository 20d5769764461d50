use Rattle.std.proofs.Common.{◌≡◌, ◌+◌, nat_lt, take}
use Rattle.std.specs.List.{count_by}
use Rattle.firing.proofs.late.late_of.Given as goal

abbrev pub invariant-loop-start : goal.invariant-loop-start
invariant-loop-start l = l.late ≡ count_by (λ x. nat_lt l.target (x + l.time)) (take l.start-index l.starts)
