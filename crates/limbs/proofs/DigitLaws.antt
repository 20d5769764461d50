-- Numbers written by digits, to any base.
use Prim.Native.Nat.{ℕ, ◌+◌, ◌*◌, ◌<◌}
use mathlib.Core.Path.{◌≡◌, ap, sym}
use native.Mathlib.Nat.{mul-le-mul_left, lt_of_mul-lt-mul_left}
use native.Mathlib.Omega.{arith}
use Rattle.lists.proofs.Order.{order}

module _ (b : ℕ) where
  -- a product digit by digit: a digit r and its carry, and then the rest
  pub carried : (x k carry r next rest more : ℕ) → r + b * next ≡ x * k + carry → rest ≡ more * k + next → r + b * rest ≡ (x + b * more) * k + carry
  carried x k carry r next rest more h e = let m = ap (λ (y : ℕ). b * y) e in omega arith

  -- without its lowest digit a number is shorter
  pub shorter : (x rest y : ℕ) → x + b * rest < b * y → rest < y
  shorter x rest y h = lt_of_mul-lt-mul_left b (omega arith)

  rest_least : (x y s t : ℕ) → x < b → s < t → x + b * s ≡ y + b * t → ⊥
  rest_least x y s t l h e = let m = mul-le-mul_left b h in omega arith

  -- equal numbers have equal digits
  pub same_rest : (x y s t : ℕ) → x < b → y < b → x + b * s ≡ y + b * t → s ≡ t
  same_rest x y s t l k e = order s t (λ lt. absurd (rest_least x y s t l lt e)) (λ eq. eq) (λ gt. absurd (rest_least y x t s k gt (sym e)))

  pub same_digit : (x y s t : ℕ) → x < b → y < b → x + b * s ≡ y + b * t → x ≡ y
  same_digit x y s t l k e = let m = ap (λ (z : ℕ). b * z) (same_rest x y s t l k e) in omega arith
