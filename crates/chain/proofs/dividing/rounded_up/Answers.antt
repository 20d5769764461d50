use Rattle.chain.proofs.CeilingLaws.{ceiling_is}
use Rattle.chain.proofs.dividing.rounded_up.Goals as goal

pub returns : goal.returns
returns c = rw c.div_ceil.ensures (ceiling_is c.args.k c.args.rate c.requires)
