-- The largest value over the numbers below n, and over a list.
use mathlib.Core.Path.{◌≡◌, refl, ap}
use mathlib.Core.List.{List, [], ◌∷◌, Memᴰ}
use mathlib.Core.Logic.{◌⊎◌, inl, inr}
use Prim.Native.Nat.{ℕ, zero, suc, ◌≤◌, ◌<◌, max}
use native.Mathlib.Omega.{arith}
use native.Mathlib.Decide.{dec_le, ℕ_discrete}

abbrev pub max_to : ℕ → (ℕ → ℕ) → ℕ
max_to zero f = 0
max_to (suc n) f = max (max_to n f) (f n)

pub max_above : (n : ℕ) (f : ℕ → ℕ) (i : ℕ) → i < n → f i ≤ max_to n f
max_above zero f i h = absurd (omega arith)
max_above (suc n) f i h = elim (ℕ_discrete i n) [ yes e ↦ rw e (omega arith) | no x ↦ omega (arith, max_above n f i (omega arith)) ]

pub max_is : (n : ℕ) (f : ℕ → ℕ) → (max_to n f ≡ 0) ⊎ ((i : ℕ) × (i < n) × (max_to n f ≡ f i))
max_is zero f = inl refl
max_is (suc n) f = go (dec_le (max_to n f) (f n)) (max_is n f)
  where
    go : Dec (max_to n f ≤ f n) → (max_to n f ≡ 0) ⊎ ((i : ℕ) × (i < n) × (max_to n f ≡ f i)) → (max (max_to n f) (f n) ≡ 0) ⊎ ((i : ℕ) × (i < suc n) × (max (max_to n f) (f n) ≡ f i))
    go (yes a) r = inr (n, omega arith, omega arith)
    go (no a) (inl r) = inl (omega arith)
    go (no a) (inr r) = inr (r.0, omega (arith, r.1), omega (arith, r.2))

module _ {A : Type 0} where
  abbrev pub max_over : List A → (A → ℕ) → ℕ
  max_over [] f = 0
  max_over (a ∷ l) f = max (f a) (max_over l f)

  pub over_above : (f : A → ℕ) {a : A} {l : List A} → Memᴰ a l → f a ≤ max_over l f
  over_above f (Memᴰ.head e) = omega (arith, ap f e)
  over_above f (Memᴰ.tail m) = omega (arith, over_above f m)

  pub over_is : (l : List A) (f : A → ℕ) → (max_over l f ≡ 0) ⊎ ((a : A) × (max_over l f ≡ f a))
  over_is [] f = inl refl
  over_is (a ∷ l) f = go (dec_le (max_over l f) (f a)) (over_is l f)
    where
      go : Dec (max_over l f ≤ f a) → (max_over l f ≡ 0) ⊎ ((b : A) × (max_over l f ≡ f b)) → (max (f a) (max_over l f) ≡ 0) ⊎ ((b : A) × (max (f a) (max_over l f) ≡ f b))
      go (yes h) r = inr (a, omega arith)
      go (no h) (inl r) = inl (omega arith)
      go (no h) (inr r) = inr (r.0, omega (arith, r.1))
