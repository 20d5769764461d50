-- Whole numbers of either sign.
use Rattle.std.specs.Prelude.{ℕ, suc, ℤ, pos, negsuc}

-- A whole number is up - down, and one of the two is 0.
abbrev pub up : ℤ → ℕ
up (pos n) = n
up (negsuc n) = 0

abbrev pub down : ℤ → ℕ
down (pos n) = 0
down (negsuc n) = suc n
