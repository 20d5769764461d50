-- Sums over the numbers below n.
use mathlib.Core.Path.{◌≡◌, refl}
use Prim.Native.Nat.{ℕ, zero, suc, ◌+◌, ◌-◌, ◌*◌, ◌≤◌, ◌<◌}
use native.Mathlib.Omega.{arith}
use native.Mathlib.Decide.{ℕ_discrete, dec_lt}
use Rattle.dataflow.specs.Counts.{sum}

pub sum_le : (n : ℕ) (f g : ℕ → ℕ) → ((v : ℕ) → f v ≤ g v) → sum n f ≤ sum n g
sum_le zero f g h = omega arith
sum_le (suc n) f g h = omega (arith, sum_le n f g h, h n)

pub sum_same : (n : ℕ) (f g : ℕ → ℕ) → ((v : ℕ) → v < n → f v ≡ g v) → sum n f ≡ sum n g
sum_same zero f g h = refl
sum_same (suc n) f g h = omega (arith, sum_same n f g (λ v k. h v (omega arith)), h n (omega arith))

pub sum_none : (n : ℕ) → sum n (λ v. 0) ≡ 0
sum_none zero = refl
sum_none (suc n) = omega (arith, sum_none n)

pub sum_times : (n c : ℕ) (f : ℕ → ℕ) → sum n (λ v. c * f v) ≡ c * sum n f
sum_times zero c f = omega arith
sum_times (suc n) c f = omega (arith, sum_times n c f)

pub sum_lt : (n : ℕ) (f g : ℕ → ℕ) → ((v : ℕ) → f v ≤ g v) → (v : ℕ) → v < n → f v < g v → sum n f < sum n g
sum_lt zero f g h v l k = absurd (omega arith)
sum_lt (suc n) f g h v l k = elim (ℕ_discrete v n) [ yes e ↦ omega (arith, sum_le n f g h, rw e at k) | no x ↦ omega (arith, sum_lt n f g h v (omega arith) k, h n) ]

pub sum_above : (n : ℕ) (f : ℕ → ℕ) (v : ℕ) → v < n → f v ≤ sum n f
sum_above zero f v h = absurd (omega arith)
sum_above (suc n) f v h = elim (ℕ_discrete v n) [ yes e ↦ rw e (omega arith) | no x ↦ omega (arith, sum_above n f v (omega arith)) ]

pub sum_before : (q : ℕ → ℕ) (v w : ℕ) → v < w → sum v q + q v ≤ sum w q
sum_before q v zero h = absurd (omega arith)
sum_before q v (suc w) h = elim (ℕ_discrete v w) [ yes e ↦ rw e (omega arith) | no n ↦ omega (arith, sum_before q v w (omega arith)) ]

-- where one sum is below another, some number of it is
pub sum_less : (n : ℕ) (f g : ℕ → ℕ) → sum n f < sum n g → (v : ℕ) × (v < n) × (f v < g v)
sum_less zero f g h = absurd (omega arith)
sum_less (suc n) f g h = go (dec_lt (f n) (g n)) (λ k. sum_less n f g k)
  where
    go : Dec (f n < g n) → (sum n f < sum n g → (v : ℕ) × (v < n) × (f v < g v)) → (v : ℕ) × (v < suc n) × (f v < g v)
    go (yes l) ih = (n, omega arith, l)
    go (no l) ih = let x = ih (omega arith) in (x.0, omega (arith, x.1), x.2)

-- numbers that are nowhere above others and have the same sum are the same
pub sum_tight : (n : ℕ) (f g : ℕ → ℕ) → ((v : ℕ) → f v ≤ g v) → sum n f ≡ sum n g → (v : ℕ) → v < n → f v ≡ g v
sum_tight n f g le e v h = go (dec_lt (f v) (g v))
  where
    go : Dec (f v < g v) → f v ≡ g v
    go (yes l) = absurd (omega (arith, sum_lt n f g le v h l))
    go (no l) = omega (arith, le v)

-- each number below the sum stands in the part of one of the numbers
pub sum_place : (q : ℕ → ℕ) (n k : ℕ) → k < sum n q → (v : ℕ) × (i : ℕ) × (v < n) × (i < q v) × (k ≡ sum v q + i)
sum_place q zero k h = absurd (omega arith)
sum_place q (suc n) k h =
    elim (dec_lt k (sum n q)) [
      | yes l ↦ let x = sum_place q n k l in (x.0, x.1, omega (arith, x.2), x.3, x.4)
      | no l ↦ (n, k - sum n q, omega arith, omega arith, omega arith)
    ]
