-- The sizes of numbers of either sign.
use Prim.Native.Nat.{◌≤◌}
use native.Mathlib.Omega.{arith}
use lib.IntN.{ℤ, pos, negsuc}
use mir.Syntax.{w32}
use mir.Val.{SFits}
use Rattle.dataflow.specs.Whole.{up, down}
use Rattle.dataflow.specs.Refusals.{InHandRange}

-- both parts of a number in range are in range
pub parts_small : (x : ℤ) → InHandRange x → (up x ≤ 65535) × (down x ≤ 65535)
parts_small (pos n) h = (h, omega arith)
parts_small (negsuc n) h = (omega arith, h)

pub range_fits : (x : ℤ) → InHandRange x → SFits w32 x
range_fits (pos n) h = record { sfits = omega arith }
range_fits (negsuc n) h = record { sfits = omega arith }
