-- Where the copies of each station stand in the time table.
use Rattle.std.specs.Prelude.{ℕ, ◌≤◌, ◌<◌, ◌≡◌, List}
use Rattle.lists.specs.Front.{at}
use Rattle.dataflow.specs.Counts.{sum}

-- where the copies of each station begin in the time table
pub record Bases (n : ℕ) (q base : List ℕ) : Type 0 where
  pub is : (v : ℕ) → v ≤ n → at base v ≡ sum v (at q)
  pub rest : (v : ℕ) → n < v → at base v ≡ 0
