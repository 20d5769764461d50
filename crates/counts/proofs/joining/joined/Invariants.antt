use Rattle.counts.proofs.MarkLaws.{Marking}
use Rattle.counts.proofs.joining.joined.Given as goal

abbrev pub invariant-loop-count : goal.invariant-loop-count
invariant-loop-count l = Marking l.n l.m l.source l.sink l.marked l._count
