-- Counts.
use Rattle.std.specs.Prelude.{ℕ, zero, suc, ◌+◌, ◌≤◌, ◌<◌}
use Rattle.dataflow.specs.Net.{Net, Balances}

-- q is the smallest vector of positive whole numbers that balances each queue.
pub record Counts (G : Net) (q : ℕ → ℕ) : Type 0 where
  pub balances : Balances G q
  pub least : (x : ℕ → ℕ) → Balances G x → (v : ℕ) → v < G.stations → q v ≤ x v

-- f 0 + f 1 + .. + f (n - 1)
abbrev pub sum : ℕ → (ℕ → ℕ) → ℕ
sum zero f = 0
sum (suc n) f = sum n f + f n

-- N, the sum of q: the copies of a round.
abbrev pub total : Net → ℕ
total G = sum G.stations G.q
