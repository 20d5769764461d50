-- The number that limbs stand for.
use Rattle.std.specs.Prelude.{ℕ, ◌+◌, ◌*◌, ◌<◌, ◌≡◌, List, [], ◌∷◌, length}
use Rattle.lists.specs.Front.{at}

-- 2 to the power 56
abbrev pub base : ℕ
base = 72057594037927936

-- the number with these digits to the base, the lowest first
unfoldable pub value : List ℕ → ℕ
value [] = 0
value (x ∷ l) = x + base * value l

-- four limbs, each below the base
pub record Proper (l : List ℕ) : Type 0 where
  pub long : length l ≡ 4
  pub small : (i : ℕ) → at l i < base

-- the limbs stand for the number x
pub record StandsFor (l : List ℕ) (x : ℕ) : Type 0 where
  pub proper : Proper l
  pub is : value l ≡ x

-- 2 to the power 224, the lowest number that four limbs don't hold
unfoldable pub limit : ℕ
limit = base * (base * (base * base))
