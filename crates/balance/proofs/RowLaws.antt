-- The answer as row 16 of the table, for a sheet with these columns.
use Prim.Native.Nat.{ℕ}
use mathlib.Core.Path.{refl}
use mathlib.Core.List.{List}
use native.Mathlib.Omega.{arith}
use Rattle.std.specs.Prelude.{Some, None}
use Rattle.lists.specs.Lowest.{FirstFailing}
use Rattle.refusals.specs.First.{Passed, Lowest}
use Rattle.dataflow.specs.Refusals.{BalancesTo, unbalanced_row}
use Rattle.dataflow.specs.Sheet.{Sheet, net}
use Rattle.dataflow.proofs.NumberLaws.{number_of_lem, number_is}
use Rattle.balance.specs.Spoiled.{Balanceable}

module _ (s : Sheet) (q : List ℕ) where
  abbrev Can : ℕ → Type 0
  Can = Balanceable s.stations s.queues s.source s.sink s.produced s.consumed

  in_sheet : {last : ℕ} (B : Can last) → BalancesTo (net s q) last B.vector
  in_sheet B = record { positive = B.balances.positive; balanced = B.balances.balanced }

  of_sheet : {last : ℕ} (x : ℕ → ℕ) → BalancesTo (net s q) last x → Can last
  of_sheet x b = record { vector = x; balances = record { positive = b.positive; balanced = b.balanced } }

  -- a queue that was found is the place of 16
  pub spoiled_applies : {e : ℕ} → FirstFailing Can s.queues (Some e) → Lowest (unbalanced_row (net s q)) e
  spoiled_applies {e} F =
      let h = F.inside e refl in
      record {
        applies = ((e, h), number_of_lem s.queues e h, λ x b. F.lowest.fails h (of_sheet x b));
        none_below = λ i l a. let B = F.lowest.below i l in a.2 B.vector (in_sheet B);
      }

  -- where none was, 16 is passed
  pub spoiled_passes : FirstFailing Can s.queues None → Passed (unbalanced_row (net s q))
  spoiled_passes F place a =
      let e = a.0 in
      let B = F.lowest.below place (omega (arith, e.1, number_is s.queues e place a.1)) in
      a.2 B.vector (in_sheet B)
