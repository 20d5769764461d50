-- Which queues can be balanced together.
use Rattle.std.specs.Prelude.{ℕ, List, []}
use Rattle.dataflow.specs.Refusals.{BalancesTo}
use Rattle.chain.specs.Chain.{net_of}

-- some positive vector of any size balances queues 0 to `last`
pub record Balanceable (n m : ℕ) (source sink produced consumed : List ℕ) (last : ℕ) : Type 0 where
  pub vector : ℕ → ℕ
  pub balances : BalancesTo (net_of n m source sink produced consumed [] []) last vector
