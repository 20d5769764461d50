use Rattle.counts.proofs.RateLaws.{raise_source}
use Rattle.counts.proofs.raising.raise.Goals as goal

pub returns-then-made-taken-clause-raised : goal.returns-then-made-taken-clause-raised
returns-then-made-taken-clause-raised c =
    raise_source c.moved-made.ensures.made c.moved-made.ensures.taken c.if-made-taken.true c.from.ensures (rw c.from-then-made-taken.ensures at c.rounded_up.ensures)
