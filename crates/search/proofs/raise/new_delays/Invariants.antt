use Rattle.std.proofs.Common.{◌≡◌, length}
use Rattle.search.specs.Raise.{NewDelays}
use Rattle.search.proofs.raise.new_delays.Given as goal

abbrev pub invariant-loop-e : goal.invariant-loop-e
invariant-loop-e l =
    (length l.new ≡ 64) × NewDelays l.e l.chain.source l.chain.sink l.chain.produced l.chain.consumed l.late l.delay l.new
