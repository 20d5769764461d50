-- No second answer meets a contract.
use Prim.Native.Nat.{ℕ}
use mathlib.Core.Path.{◌≡◌, sym, ◌∙◌}
use mathlib.Core.Bool.{Bool}
use mathlib.Core.List.{List}
use Rattle.lists.specs.Test.{Tells}
use Rattle.lists.proofs.TestLaws.{tells_once}
use Rattle.limbs.specs.Value.{StandsFor}
use Rattle.limbs.proofs.ValueLaws.{same_limbs}

-- of the limbs that a number stands in: an array made from a `Limbs`
pub stands_for_unique : (x : ℕ) (l l' : List ℕ) → StandsFor l x → StandsFor l' x → l ≡ l'
stands_for_unique x l l' p q = same_limbs l l' (p.proper.long ∙ sym q.proper.long) p.proper.small q.proper.small (p.is ∙ sym q.is)

-- of the test whether two numbers are equal
pub same_unique : (x y : ℕ) (r r' : Bool) → Tells r (x ≡ y) → Tells r' (x ≡ y) → r ≡ r'
same_unique x y = tells_once
