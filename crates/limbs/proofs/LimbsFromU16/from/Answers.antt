use Rattle.std.proofs.Common.{◌∙◌}
use Rattle.limbs.proofs.ValueLaws.{rate_is}
use Rattle.limbs.proofs.LimbsFromU16.from.Goals as goal

pub returns : goal.returns
returns c = c.new.ensures ∙ rw c.from.ensures (rate_is c.args.rate)
