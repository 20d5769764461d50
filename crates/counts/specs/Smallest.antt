-- The smallest counts, or that none fit.
use Rattle.std.specs.Prelude.{ℕ, ◌≤◌, ◌≡◌, List, [], length, Option, Some, None}
use Rattle.lists.specs.Front.{at}
use Rattle.dataflow.specs.Net.{Balances}
use Rattle.dataflow.specs.Counts.{Counts, sum}
use Rattle.chain.specs.Chain.{net_of}
use Rattle.counts.specs.declared.Counted.{Counted}

-- q are the smallest counts, and total is their sum, at most 256; times and counts of the net play no part
pub record SmallestAre (n m : ℕ) (source sink produced consumed : List ℕ) (r : Counted) : Type 0 where
  pub entries : length r.q ≡ 32
  pub beyond : (v : ℕ) → n ≤ v → at r.q v ≡ 0
  pub total : r.total ≡ sum n (at r.q)
  pub most : r.total ≤ 256
  pub counts : Counts (net_of n m source sink produced consumed [] []) (at r.q)

-- the smallest counts; or none, where no vector with a sum of at most 256 balances each queue
abbrev pub Smallest : (n m : ℕ) (source sink produced consumed : List ℕ) → Option Counted → Type 0
Smallest n m source sink produced consumed None =
    (x : ℕ → ℕ) → Balances (net_of n m source sink produced consumed [] []) x → ¬ (sum n x ≤ 256)
Smallest n m source sink produced consumed (Some r) = SmallestAre n m source sink produced consumed r
