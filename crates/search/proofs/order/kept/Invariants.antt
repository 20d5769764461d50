use Rattle.std.proofs.Common.{◌≡◌, length}
use Rattle.search.specs.Cut.{Keeps}
use Rattle.search.proofs.order.kept.Given as goal

abbrev pub invariant-loop-v : goal.invariant-loop-v
invariant-loop-v l = (length l.keep ≡ 32) × Keeps l.v l.q l.late l.keep
