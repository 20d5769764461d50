use mathlib.Core.Path.{◌∙◌}
use Rattle.limbs.proofs.ValueLaws.{same_is}
use Rattle.limbs.proofs.LimbsPartialEq.eq.Goals as goal

pub returns : goal.returns
returns c = rw (← c.self.view_is, ← c.other.view_is) (c.eq.ensures ∙ same_is _ _ c.self.invariant c.other.invariant)
