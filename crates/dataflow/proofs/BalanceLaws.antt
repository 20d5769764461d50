-- Row 16 of the table: it applies somewhere exactly where no vector balances every queue.
use Prim.Native.Nat.{ℕ, ◌-◌, ◌<◌}
use mathlib.Core.List.{List}
use native.Mathlib.Omega.{arith}
use Rattle.lists.proofs.Order.{order}
use Rattle.refusals.specs.First.{Passed}
use Rattle.dataflow.specs.Net.{Net, Balances}
use Rattle.dataflow.specs.Refusals.{unbalanced_row}
use Rattle.dataflow.specs.Sheet.{Sheet, net}
use Rattle.dataflow.proofs.NumberLaws.{number_of_lem}

-- a vector that balances every queue passes it
pub balanced_passes : (G : Net) (x : ℕ → ℕ) → Balances G x → Passed (unbalanced_row G)
balanced_passes G x b place a = a.2 x (record { positive = b.positive; balanced = λ e i k l. b.balanced e })

-- and where none does, it applies at the last queue
pub unbalanced_applies : (s : Sheet) (q : List ℕ) → ((x : ℕ → ℕ) → ¬ Balances (net s q) x) → (unbalanced_row (net s q)).applies (s.queues - 1)
unbalanced_applies s q none =
    let h : s.queues - 1 < s.queues = order 0 s.queues (λ some. omega arith) (λ empty. absurd (none (λ v. 1) (record { positive = λ v k. omega arith; balanced = λ e. absurd (omega (arith, e.1)) }))) (λ less. absurd (omega arith)) in
    ((s.queues - 1, h), number_of_lem s.queues (s.queues - 1) h, λ x b. none x (record { positive = b.positive; balanced = λ e. b.balanced e e.0 (number_of_lem s.queues e.0 e.1) (omega (arith, e.1)) }))
