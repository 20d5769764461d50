-- A list that is filled from its first entry on.
use Rattle.std.specs.Prelude.{ℕ, ◌≤◌, ◌<◌, ◌≡◌, List}
use Rattle.lists.specs.Front.{at}

-- P holds of each of the first k entries and its place, and the others are 0
pub record Filled (P : (place entry : ℕ) → Type 0) (k : ℕ) (l : List ℕ) : Type 0 where
  pub is : (i : ℕ) → i < k → P i (at l i)
  pub rest : (i : ℕ) → k ≤ i → at l i ≡ 0
