-- The laws of where the copies of each station begin in the time table.
use Prim.Native.Nat.{ℕ, ◌+◌, ◌≤◌, ◌<◌}
use mathlib.Core.Path.{◌≡◌, ap, ◌∙◌}
use mathlib.Core.List.{List}
use native.Mathlib.Omega.{arith}
use native.Mathlib.Numerals.{add-one}
use lib.ListN.{length, set}
use lib.Seq.{get_or-set_same, get_or-set_other}
use Rattle.lists.specs.Front.{at}
use Rattle.lists.proofs.Order.{order}
use Rattle.dataflow.specs.Counts.{sum}
use Rattle.chain.specs.Bases.{Bases}

-- one station more
pub bases_more : (n : ℕ) (q base : List ℕ) → n + 1 < length base → Bases n q base → Bases (n + 1) q (set base (n + 1) (at base n + at q n))
bases_more n q base h b = record { is = is; rest = λ v l. get_or-set_other base (n + 1) v _ 0 (λ e. omega arith) ∙ b.rest v (omega arith) }
  where
    next : at base n + at q n ≡ sum (n + 1) (at q)
    next = rw add-one (ap (λ (x : ℕ). x + at q n) (b.is n (omega arith)))

    is : (v : ℕ) → v ≤ n + 1 → at (set base (n + 1) (at base n + at q n)) v ≡ sum v (at q)
    is v l =
        order v (n + 1)
        (λ lt. get_or-set_other base (n + 1) v _ 0 (λ e. omega arith) ∙ b.is v (omega arith))
        (λ eq. rw (eq, get_or-set_same base (n + 1) (at base n + at q n) 0 h) next)
        (λ gt. absurd (omega arith))
