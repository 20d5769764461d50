-- Proofs by cases on the order of two numbers.
use Prim.Native.Nat.{ℕ, ◌+◌, ◌≤◌, ◌<◌}
use mathlib.Core.Path.{◌≡◌, refl}
use mathlib.Core.Logic.{◌⊎◌, inl, inr, ⊎_elim}
use mathlib.Core.Bool.{Bool, true, false}
use native.Mathlib.Omega.{arith}
use lib.Dec.{ltb}
use borrow.Author.Tests.{ltb-true, ltb-false}

by_test : (k n : ℕ) (b : Bool) → ltb k n ≡ b → (k < n) ⊎ (n ≤ k)
by_test k n true e = inl (ltb-true k n e)
by_test k n false e = inr (ltb-false k n e)

pub lt_or_ge : (k n : ℕ) → (k < n) ⊎ (n ≤ k)
lt_or_ge k n = by_test k n (ltb k n) refl

-- below, at or above
pub order {ℓ} : {P : Type ℓ} (k n : ℕ) → (k < n → P) → (k ≡ n → P) → (n < k → P) → P
order k n lt eq gt =
    ⊎_elim lt (λ ge. ⊎_elim (λ l. eq (omega arith)) (λ g. gt (omega arith)) (lt_or_ge k (n + 1))) (lt_or_ge k n)

-- an order or an equation that cannot fail holds
pub le_stable : {a b : ℕ} → ((a ≤ b → ⊥) → ⊥) → a ≤ b
le_stable {a} {b} h = ⊎_elim (λ lt. absurd (h (λ le. omega arith))) (λ ge. ge) (lt_or_ge b a)

pub eq_stable : {a b : ℕ} → ((a ≡ b → ⊥) → ⊥) → a ≡ b
eq_stable {a} {b} h = order a b (λ lt. absurd (h (λ e. omega arith))) (λ e. e) (λ gt. absurd (h (λ e. omega arith)))
