use Rattle.std.proofs.Common.{◌≡◌, length}
use Rattle.search.specs.Raise.{Raised}
use Rattle.search.proofs.raise.raised.Given as goal

abbrev pub invariant-loop-v : goal.invariant-loop-v
invariant-loop-v l = (length l.new ≡ 32) × Raised l.v l.late l.retiming l.new
