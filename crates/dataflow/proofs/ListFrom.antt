-- Lists f a, f (a + 1), ..
use mathlib.Core.Path.{◌≡◌, refl, ap, ap₂, ◌∙◌}
use mathlib.Core.List.{◌∷◌, ◌++◌, Memᴰ}
use Prim.Native.Nat.{ℕ, zero, suc, ◌+◌, ◌<◌}
use native.Mathlib.Nat.{zero-add, suc-add, add-zero, add-suc}
use native.Mathlib.Omega.{arith}
use lib.ListN.{length, take, drop, get_or}
use Rattle.dataflow.specs.Runs.{list_from}

module _ {A : Type 0} (f : ℕ → A) where
  pub length_from : (a n : ℕ) → length (list_from f a n) ≡ n
  length_from a zero = refl
  length_from a (suc n) = ap suc (length_from (suc a) n)

  pub from_append : (a n b m : ℕ) → a + n ≡ b → list_from f a n ++ list_from f b m ≡ list_from f a (n + m)
  from_append a zero b m e = let e' : b ≡ a = omega arith in rw (e', zero-add)
  from_append a (suc n) b m e = rw suc-add (ap (λ l. f a ∷ l) (from_append (suc a) n b m (omega arith)))

  pub from_drop : (a c n : ℕ) → drop c (list_from f a (c + n)) ≡ list_from f (a + c) n
  from_drop a zero n = rw (zero-add, add-zero)
  from_drop a (suc c) n = rw (suc-add, add-suc) (from_drop (suc a) c n ∙ rw suc-add)

  pub from_take : (a c n : ℕ) → take c (list_from f a (c + n)) ≡ list_from f a c
  from_take a zero n = refl
  from_take a (suc c) n = rw suc-add (ap (λ l. f a ∷ l) (from_take (suc a) c n))

  pub from_at : (a n i : ℕ) (z : A) → i < n → get_or (list_from f a n) i z ≡ f (a + i)
  from_at a zero i z h = absurd (omega arith)
  from_at a (suc n) zero z h = rw add-zero
  from_at a (suc n) (suc i) z h = from_at (suc a) n i z (omega arith) ∙ ap f (omega arith)

  -- an element stands at one of the places
  pub from_in : {x : A} (a n : ℕ) → Memᴰ x (list_from f a n) → (i : ℕ) × (i < n) × (x ≡ f (a + i))
  from_in a zero m = elim m [ ]
  from_in a (suc n) m = go m (λ m'. from_in (suc a) n m')
    where
      go : {x : A} → Memᴰ x (f a ∷ list_from f (suc a) n) → (Memᴰ x (list_from f (suc a) n) → (i : ℕ) × (i < n) × (x ≡ f (suc a + i))) → (i : ℕ) × (i < suc n) × (x ≡ f (a + i))
      go (Memᴰ.head e) ih = (0, omega arith, e ∙ ap f (omega arith))
      go (Memᴰ.tail m') ih = let r = ih m' in (suc r.0, omega (arith, r.1), r.2 ∙ ap f (omega arith))

  pub in_from : (a n i : ℕ) → i < n → Memᴰ (f (a + i)) (list_from f a n)
  in_from a zero i h = absurd (omega arith)
  in_from a (suc n) zero h = Memᴰ.head (ap f (add-zero a))
  in_from a (suc n) (suc i) h = let e : a + suc i ≡ suc a + i = omega arith in rw e (Memᴰ.tail (in_from (suc a) n i (omega arith)))

pub from_ext : {A : Type 0} (f g : ℕ → A) (a b n : ℕ) → ((i : ℕ) → i < n → f (a + i) ≡ g (b + i)) → list_from f a n ≡ list_from g b n
from_ext f g a b zero h = refl
from_ext f g a b (suc n) h =
    ap₂ (λ x l. x ∷ l) (simp add-zero at (h 0 (omega arith)))
    (from_ext f g (suc a) (suc b) n (λ i k. simp (suc-add, ← add-suc) (h (suc i) (omega arith))))
