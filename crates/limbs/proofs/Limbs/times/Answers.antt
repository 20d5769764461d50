use mathlib.Core.Path.{refl}
use native.Mathlib.Omega.{arith}
use Rattle.limbs.proofs.ValueLaws.{four_small, last_small, times_is}
use Rattle.limbs.proofs.Limbs.times.Goals as goal

pub invariant_of-self : goal.invariant_of-self
invariant_of-self c =
    let last = last_small _ c.self.invariant _ c.self.view_is c.from-k.ensures c.requires.fits in
    record { long = refl; small = four_small _ _ _ _ (omega arith) (omega arith) (omega arith) (omega arith) }

pub returns : goal.returns
returns c = times_is _ c.self.invariant _ c.self.view_is c.from-k.ensures
