-- The answers as rows 6 and 7 of the table, for a sheet with these columns, and what they give to the routines that follow.
use Prim.Native.Nat.{ℕ}
use mathlib.Core.Path.{◌≡◌, sym}
use mathlib.Core.Bool.{Bool, true, false}
use mathlib.Core.List.{List}
use native.Mathlib.Omega.{arith}
use Rattle.std.specs.Prelude.{None}
use Rattle.lists.specs.Front.{at}
use Rattle.lists.specs.Test.{Tells}
use Rattle.dataflow.specs.Counts.{Counts}
use Rattle.dataflow.specs.Refusals.{Joined, here, along, against, apart_row, counts_row}
use Rattle.dataflow.specs.Sheet.{Sheet, net}
use Rattle.counts.specs.declared.Counted.{Counted}
use Rattle.chain.specs.Chain.{ChainFits, CountedChain}
use Rattle.counts.specs.Joining.{ends_of, AllJoined}
use Rattle.counts.specs.Smallest.{SmallestAre, Smallest}

module _ (s : Sheet) (q : List ℕ) where
  by_ends : {u v : ℕ} → Joined (net s q) u v → Joined (ends_of s.stations s.queues s.source s.sink) u v
  by_ends here = here
  by_ends (along e j) = along e (by_ends j)
  by_ends (against e j) = against e (by_ends j)

  in_sheet : {u v : ℕ} → Joined (ends_of s.stations s.queues s.source s.sink) u v → Joined (net s q) u v
  in_sheet here = here
  in_sheet (along e j) = along e (in_sheet j)
  in_sheet (against e j) = against e (in_sheet j)

  -- 6 applies exactly where the answer is false
  module _ {r : Bool} (T : Tells r (AllJoined s.stations s.queues s.source s.sink)) where
    pub joined_passes : r ≡ true → ¬ (apart_row (net s q)).applies 0
    joined_passes t a = a (λ u v h k. in_sheet (T.holds t u v h k))

    pub apart_applies : r ≡ false → (apart_row (net s q)).applies 0
    apart_applies f all = T.fails f (λ u v h k. by_ends (all u v h k))

  -- 7 applies exactly where there are none, and else the answer's q are the counts
  module _ {r : Counted} (S : SmallestAre s.stations s.queues s.source s.sink s.produced s.consumed r) where
    pub are_counts : Counts (net s q) (at r.q)
    are_counts =
        record {
          balances = record { positive = S.counts.balances.positive; balanced = S.counts.balances.balanced };
          least = λ x b. S.counts.least x (record { positive = b.positive; balanced = b.balanced });
        }

    pub counts_pass : ¬ (counts_row (net s q)).applies 0
    counts_pass a = a (at r.q) are_counts.balances (omega (arith, S.total, S.most))

  pub counts_fail_applies : Smallest s.stations s.queues s.source s.sink s.produced s.consumed None → (counts_row (net s q)).applies 0
  counts_fail_applies none x b = none x (record { positive = b.positive; balanced = b.balanced })

-- a chain with the counts that fit it
module _ {n m : ℕ} {source sink produced consumed : List ℕ} (chain : ChainFits n m source sink produced consumed) where
  pub counted_chain : {r : Counted} → SmallestAre n m source sink produced consumed r → CountedChain n m source sink produced consumed r.q r.total
  counted_chain S = record {
    chain = chain;
    positive = S.counts.balances.positive;
    beyond = S.beyond;
    balanced = λ e h. S.counts.balances.balanced (e, h);
    adds = sym S.total;
    few = S.most;
  }
