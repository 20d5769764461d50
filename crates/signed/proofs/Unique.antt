-- No second answer meets a contract.
use mathlib.Core.Path.{◌≡◌}
use mathlib.Core.Bool.{Bool}
use lib.IntN.{ℤ}
use Rattle.lists.specs.Test.{Tells}
use Rattle.lists.proofs.TestLaws.{tells_once}
use Rattle.dataflow.specs.Refusals.{InHandRange}

pub in_hand_range_unique : (x : ℤ) (r r' : Bool) → Tells r (InHandRange x) → Tells r' (InHandRange x) → r ≡ r'
in_hand_range_unique x = tells_once
