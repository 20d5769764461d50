-- The laws of parts end to end.
use Prim.Native.Nat.{ℕ, zero, suc, ◌+◌, ◌*◌, ◌<◌}
use mathlib.Core.Path.{◌≡◌, refl, sym, ◌∙◌}
use mathlib.Core.List.{List, ◌++◌}
use native.Mathlib.Nat.{not-suc-le-zero, mul-zero, mul-suc, mul-le-mul_left}
use native.Mathlib.Omega.{arith}
use native.Mathlib.Numerals.{add-one}
use lib.ListN.{length, length-append, get_or-append}
use lib.Seq.{get_or-append-add}
use Rattle.lists.specs.Front.{at}
use Rattle.lists.specs.Joined.{joined}
use Rattle.lists.proofs.Order.{order}

pub joined_more : (n : ℕ) (part : ℕ → List ℕ) → joined n part ++ part n ≡ joined (n + 1) part
unfolding joined
joined_more n part = rw add-one

pub joined_same : (n : ℕ) (f g : ℕ → List ℕ) → ((k : ℕ) → k < n → f k ≡ g k) → joined n f ≡ joined n g
unfolding joined
joined_same zero f g h = refl
joined_same (suc n) f g h = rw (joined_same n f g (λ k l. h k (omega arith)), h n (omega arith))

-- parts of one length
module _ (size : ℕ) (part : ℕ → List ℕ) (sized : (k : ℕ) → length (part k) ≡ size) where
  pub length_joined : (n : ℕ) → length (joined n part) ≡ size * n
  unfolding joined
  length_joined zero = sym (mul-zero size)
  length_joined (suc n) = rw (length-append, length_joined n, sized n, mul-suc)

  -- entry i of part k
  pub at_joined : (n k i : ℕ) → k < n → i < size → at (joined n part) (size * k + i) ≡ at (part k) i
  unfolding joined
  at_joined zero k i h b = absurd (not-suc-le-zero h)
  at_joined (suc n) k i h b =
      order k n
      (λ lt.
      get_or-append (joined n part) (part n) 0 (size * k + i)
      (omega (arith, length_joined n, mul-suc size k, mul-le-mul_left size lt))
      ∙ at_joined n k i lt b)
      (λ eq. rw (eq, ← length_joined n) (get_or-append-add (joined n part) (part n) i 0))
      (λ gt. absurd (omega arith))
