-- What every law of dataflow asks of a net, for a chain with its counts.
use Prim.Native.Nat.{ℕ, ◌≤◌}
use mathlib.Core.List.{List}
use mathlib.Core.Logic.{⊎_elim}
use native.Mathlib.Omega.{arith}
use Rattle.lists.specs.Front.{at}
use Rattle.lists.proofs.Order.{lt_or_ge}
use Rattle.dataflow.specs.Net.{Sound}
use Rattle.dataflow.proofs.SumLaws.{sum_above}
use Rattle.dataflow.proofs.SheetLaws.{sheet_sound}
use Rattle.chain.specs.Chain.{sheet_of, net_of, CountedChain}

pub sound : {n m : ℕ} {source sink produced consumed q : List ℕ} {total : ℕ} → CountedChain n m source sink produced consumed q total → (time : List ℕ) → Sound (net_of n m source sink produced consumed time q)
sound {n} {m} {source} {sink} {produced} {consumed} {q} c time =
    sheet_sound (sheet_of n m source sink produced consumed time) q
    (record {
      beyond = c.beyond;
      positive = c.positive;
      queues = λ e h. record {
        makes = c.chain.makes e h;
        takes = c.chain.takes e h;
        leaves = c.chain.leaves e h;
        enters = c.chain.enters e h;
        balanced = c.balanced e h;
      };
    })

-- no count is above the most copies that there can be
pub count_few : {n m : ℕ} {source sink produced consumed q : List ℕ} {total : ℕ} → CountedChain n m source sink produced consumed q total → (v : ℕ) → at q v ≤ 256
count_few {n} {q = q} c v = ⊎_elim (λ l. omega (arith, sum_above n (at q) v l, c.adds, c.few)) (λ l. omega (arith, c.beyond v l)) (lt_or_ge v n)
