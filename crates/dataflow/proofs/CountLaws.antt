-- Counts: there is one vector of them, and in a joined net all vectors that balance are in one ratio.
use mathlib.Core.Path.{◌≡◌, ap}
use Prim.Native.Nat.{ℕ, ◌*◌, ◌≤◌, ◌<◌}
use native.Mathlib.Nat.{eq_of_mul-eq-mul_right, mul-le-mul_right, le_of_mul-le-mul_right}
use native.Mathlib.Omega.{arith}
use Rattle.dataflow.specs.Net.{Net, Balances, Sound}
use Rattle.dataflow.specs.Counts.{Counts}
use Rattle.dataflow.specs.Refusals.{Joined, here, along, against}

pub counts_once : (G : Net) (x y : ℕ → ℕ) → Counts G x → Counts G y → (v : ℕ) → v < G.stations → x v ≡ y v
counts_once G x y a b v h = omega (arith, a.least y b.balances v h, b.least x a.balances v h)

module _ (G : Net) (W : Sound G) (x : ℕ → ℕ) (b : Balances G x) where
  pub one_ratio : {u v : ℕ} → Joined G u v → G.q u * x v ≡ x u * G.q v
  one_ratio here = omega arith
  one_ratio {u} (along e j) =
      let i = one_ratio j in
      eq_of_mul-eq-mul_right (G.consumed e) (W.takes e) _ _
      (omega (arith, ap (λ (y : ℕ). y * G.produced e) i, ap (λ (y : ℕ). G.q u * y) (b.balanced e), ap (λ (y : ℕ). x u * y) (W.counts.balanced e)))
  one_ratio {u} (against e j) =
      let i = one_ratio j in
      eq_of_mul-eq-mul_right (G.produced e) (W.makes e) _ _
      (omega (arith, ap (λ (y : ℕ). y * G.consumed e) i, ap (λ (y : ℕ). G.q u * y) (b.balanced e), ap (λ (y : ℕ). x u * y) (W.counts.balanced e)))

  -- so a vector that is smaller at one station is smaller at all
  pub smaller_at_all : {u v : ℕ} → Joined G u v → 0 < x u → G.q u ≤ x u → G.q v ≤ x v
  smaller_at_all {u} {v} j hp le = le_of_mul-le-mul_right {k = x u} (omega (arith, one_ratio j, mul-le-mul_right (x v) le)) hp
