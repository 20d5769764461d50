-- What the limbs of a product and of equal numbers are.
use Rattle.std.specs.Str.{bytes_eq}
use Rattle.std.proofs.Common.{◌≡◌, ℕ, zero, suc, ◌+◌, ◌*◌, ◌/◌, ◌%◌, ◌<◌, Bool, nat_eq, List, [], ◌∷◌, length, refl, sym, ap, ◌∙◌, add-zero, arith}
use Rattle.std.proofs.Math.Nat.{mul-zero}
use Rattle.std.proofs.lemmas.Bool.{eqb-true, eqb-false}
use Rattle.std.proofs.lemmas.Bool.Decides.{same_from_decides, Decides-like, Decides-eqb}
use Rattle.std.proofs.lemmas.Slice.Eq.{bytes_eq-Decides}
use Rattle.lists.specs.Front.{at}
use Rattle.lists.specs.Test.{Tells}
use Rattle.limbs.specs.Value.{base, limit, value, Proper}
use Rattle.limbs.proofs.DigitLaws.{carried, shorter, same_rest, same_digit}

-- equal numbers of as many limbs are the same limbs
pub same_limbs : (l o : List ℕ) → length l ≡ length o → ((i : ℕ) → at l i < base) → ((i : ℕ) → at o i < base) → value l ≡ value o → l ≡ o
unfolding value
same_limbs [] [] h p q e = refl
same_limbs [] (y ∷ o) h p q e = absurd (omega arith)
same_limbs (x ∷ l) [] h p q e = absurd (omega arith)
same_limbs (x ∷ l) (y ∷ o) h p q e =
    let d = same_digit base x y (value l) (value o) (p 0) (q 0) e in
    let r = same_limbs l o (omega arith) (λ i. p (suc i)) (λ i. q (suc i)) (same_rest base x y (value l) (value o) (p 0) (q 0) e) in
    λ i. d i ∷ r i

-- four limbs, one by one
by_limbs : (l : List ℕ) → length l ≡ 4 → l ≡ at l 0 ∷ at l 1 ∷ at l 2 ∷ at l 3 ∷ []
by_limbs [] h = absurd (omega arith)
by_limbs (a ∷ []) h = absurd (omega arith)
by_limbs (a ∷ b ∷ []) h = absurd (omega arith)
by_limbs (a ∷ b ∷ c ∷ []) h = absurd (omega arith)
by_limbs (a ∷ b ∷ c ∷ d ∷ []) h = refl
by_limbs (a ∷ b ∷ c ∷ d ∷ e ∷ l) h = absurd (omega arith)

abbrev digits : (a b c d : ℕ) → ℕ
digits a b c d = a + base * (b + base * (c + base * d))

value_is : (a b c d : ℕ) → value (a ∷ b ∷ c ∷ d ∷ []) ≡ digits a b c d
unfolding value
value_is a b c d = rw (mul-zero, add-zero) refl

pub four_small : (a b c d : ℕ) → a < base → b < base → c < base → d < base → (i : ℕ) → at (a ∷ b ∷ c ∷ d ∷ []) i < base
four_small a b c d p q r s zero = p
four_small a b c d p q r s (suc zero) = q
four_small a b c d p q r s (suc (suc zero)) = r
four_small a b c d p q r s (suc (suc (suc zero))) = s
four_small a b c d p q r s (suc (suc (suc (suc i)))) = omega arith

pub rate_is : (x : ℕ) → value (x ∷ 0 ∷ 0 ∷ 0 ∷ []) ≡ x
rate_is x = value_is x 0 0 0 ∙ omega arith

-- the product, limb by limb from the lowest, each with the carry of the one below it
module _ (l : List ℕ) (P : Proper l) (k : ℕ) where
  abbrev a : ℕ
  a = at l 0 * k

  abbrev b : ℕ
  b = at l 1 * k + a / base

  abbrev c : ℕ
  c = at l 2 * k + b / base

  abbrev d : ℕ
  d = at l 3 * k + c / base

  product : digits (a % base) (b % base) (c % base) d ≡ value l * k
  product =
      carried base (at l 0) k 0 (a % base) (a / base) _ _ (omega arith)
      (carried base (at l 1) k (a / base) (b % base) (b / base) _ _ (omega arith)
      (carried base (at l 2) k (b / base) (c % base) (c / base) d (at l 3) (omega arith) refl))
      ∙ add-zero _ ∙ ap (λ (y : ℕ). y * k) (sym (ap value (by_limbs l P.long) ∙ value_is (at l 0) (at l 1) (at l 2) (at l 3)))

  pub last_small : {x rate : ℕ} → value l ≡ x → k ≡ rate → x * rate < limit → d < base
  unfolding limit
  last_small e h fits =
      shorter base (c % base) d base
      (shorter base (b % base) _ _ (shorter base (a % base) _ _ (rw product (rw (← e, ← h) at fits))))

  pub times_is : {x rate : ℕ} → value l ≡ x → k ≡ rate → value (a % base ∷ b % base ∷ c % base ∷ d ∷ []) ≡ x * rate
  times_is e h = rw (← e, ← h) (value_is (a % base) (b % base) (c % base) d ∙ product)

-- the limbs are the same where the numbers are
pub same_is : (l o : List ℕ) → Proper l → Proper o → bytes_eq l o ≡ nat_eq (value l) (value o)
same_is l o p q =
    same_from_decides _ _
    (Decides-like _ (λ e. ap value e) (same_limbs l o (p.long ∙ sym q.long) p.small q.small) (bytes_eq-Decides l o))
    (Decides-eqb _ _)

-- and that tells whether the numbers are equal
pub equal_tells : (x y : ℕ) (r : Bool) → r ≡ nat_eq x y → Tells r (x ≡ y)
equal_tells x y r e = record { holds = λ t. eqb-true x y (sym e ∙ t); fails = λ f. eqb-false x y (sym e ∙ f) }
