-- The sum of a list of one number, and of numbers of which one is another.
use Prim.Native.Nat.{ℕ, zero, suc, ◌+◌, ◌<◌}
use mathlib.Core.Path.{◌≡◌, refl, ap}
use mathlib.Core.List.{List}
use native.Mathlib.Omega.{arith}
use lib.ListN.{length, set}
use lib.Seq.{get_or-set_same, get_or-set_other}
use Rattle.lists.specs.Front.{at}
use Rattle.lists.proofs.Order.{order}
use Rattle.dataflow.specs.Counts.{sum}
use Rattle.dataflow.proofs.SumLaws.{sum_same}

pub sum_ones : (n : ℕ) → sum n (λ v. 1) ≡ n
sum_ones zero = refl
sum_ones (suc n) = omega (arith, sum_ones n)

-- f and g agree but at v
pub sum_but_one : (f g : ℕ → ℕ) (v : ℕ) → ((w : ℕ) → (w ≡ v → ⊥) → f w ≡ g w) → (n : ℕ) → v < n → sum n f + g v ≡ sum n g + f v
sum_but_one f g v same zero k = absurd (omega arith)
sum_but_one f g v same (suc n) k =
    order v n
    (λ lt. omega (arith, sum_but_one f g v same n lt, same n (λ e. omega arith)))
    (λ eq. omega (arith, sum_same n f g (λ w b. same w (λ e. omega arith)), ap f eq, ap g eq))
    (λ gt. absurd (omega arith))

-- after a store
pub sum_store : (l : List ℕ) (v x : ℕ) → v < length l → (n : ℕ) → v < n → sum n (at (set l v x)) + at l v ≡ sum n (at l) + x
sum_store l v x h n k =
    omega
    (arith, sum_but_one (at (set l v x)) (at l) v (λ w d. get_or-set_other l v w x 0 d) n k, get_or-set_same l v x 0 h)
