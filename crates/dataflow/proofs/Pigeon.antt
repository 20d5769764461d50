-- Two of n + 1 numbers below n are equal; copies by number.
use mathlib.Core.Path.{◌≡◌, sym, ap}
use mathlib.Core.Logic.{◌⊎◌, inl, inr}
use Prim.Native.Nat.{ℕ, zero, suc, ◌+◌, ◌≤◌, ◌<◌}
use native.Mathlib.Nat.{le_refl}
use native.Mathlib.Omega.{arith}
use native.Mathlib.Decide.{dec_lt, ℕ_discrete}
use Rattle.dataflow.specs.Counts.{sum}
use Rattle.dataflow.proofs.SumLaws.{sum_before}

pub record Twice (f : ℕ → ℕ) (n : ℕ) : Type 0 where
  pub i : ℕ
  pub j : ℕ
  pub apart : i < j
  pub upto : j ≤ n
  pub same : f i ≡ f j

seen : (f : ℕ → ℕ) (x n : ℕ) → ((i : ℕ) × (i < n) × (f i ≡ x)) ⊎ ((i : ℕ) → i < n → ¬ (f i ≡ x))
seen f x zero = inr (λ i h. absurd (omega arith))
seen f x (suc n) = go (ℕ_discrete (f n) x) (seen f x n)
  where
    go : Dec (f n ≡ x) → ((i : ℕ) × (i < n) × (f i ≡ x)) ⊎ ((i : ℕ) → i < n → ¬ (f i ≡ x)) → ((i : ℕ) × (i < suc n) × (f i ≡ x)) ⊎ ((i : ℕ) → i < suc n → ¬ (f i ≡ x))
    go (yes y) r = inl (n, omega arith, y)
    go (no z) (inl r) = inl (r.0, omega (arith, r.1), r.2)
    go (no z) (inr r) = inr (λ i h. elim (dec_lt i n) [ yes l ↦ r i l | no l ↦ let e : i ≡ n = omega arith in rw e z ])

-- y, with x in place of n
dodge_if : (y n x : ℕ) → Dec (y ≡ n) → ℕ
dodge_if y n x (yes e) = x
dodge_if y n x (no e) = y

-- f with its value n replaced by x
dodge : (f : ℕ → ℕ) (n x : ℕ) → ℕ → ℕ
dodge f n x i = dodge_if (f i) n x (ℕ_discrete (f i) n)

pub pigeon : (n : ℕ) (f : ℕ → ℕ) → ((i : ℕ) → i ≤ n → f i < n) → Twice f n
unfolding dodge dodge_if
pigeon zero f h = absurd (omega (arith, h 0 (le_refl 0)))
pigeon (suc n) f h = go (seen f (f (suc n)) (suc n)) (λ k. pigeon n (dodge f n (f (suc n))) k)
  where
    small : ((i : ℕ) → i < suc n → ¬ (f i ≡ f (suc n))) → (i : ℕ) → i ≤ n → dodge f n (f (suc n)) i < n
    small r i k = pick (ℕ_discrete (f i) n)
      where
        pick : (w : Dec (f i ≡ n)) → dodge_if (f i) n (f (suc n)) w < n
        pick (yes w) = omega (arith, h (suc n) (le_refl (suc n)), r i (omega arith))
        pick (no w) = omega (arith, h i (omega arith))

    same : ((i : ℕ) → i < suc n → ¬ (f i ≡ f (suc n))) → (i j : ℕ) → i ≤ n → j ≤ n → dodge f n (f (suc n)) i ≡ dodge f n (f (suc n)) j → f i ≡ f j
    same r i j hi hj = pick (ℕ_discrete (f i) n) (ℕ_discrete (f j) n)
      where
        pick : (w : Dec (f i ≡ n)) (z : Dec (f j ≡ n)) → dodge_if (f i) n (f (suc n)) w ≡ dodge_if (f j) n (f (suc n)) z → f i ≡ f j
        pick (yes w) (yes z) e = omega arith
        pick (yes w) (no z) e = absurd (r j (omega arith) (sym e))
        pick (no w) (yes z) e = absurd (r i (omega arith) e)
        pick (no w) (no z) e = e

    go : ((i : ℕ) × (i < suc n) × (f i ≡ f (suc n))) ⊎ ((i : ℕ) → i < suc n → ¬ (f i ≡ f (suc n))) → (((i : ℕ) → i ≤ n → dodge f n (f (suc n)) i < n) → Twice (dodge f n (f (suc n))) n)
        → Twice f (suc n)
    go (inl w) ih = record { i = w.0; j = suc n; apart = w.1; upto = le_refl (suc n); same = w.2 }
    go (inr r) ih =
        let t = ih (small r) in
        record { i = t.i; j = t.j; apart = t.apart; upto = omega (arith, t.upto); same = same r t.i t.j (omega (arith, t.apart, t.upto)) t.upto t.same }

-- the number sum v q + i tells v and i
pub code_once : (q : ℕ → ℕ) (v w i j : ℕ) → i < q v → j < q w → sum v q + i ≡ sum w q + j → (v ≡ w) × (i ≡ j)
code_once q v w i j hi hj e = go (dec_lt v w) (dec_lt w v)
  where
    go : Dec (v < w) → Dec (w < v) → (v ≡ w) × (i ≡ j)
    go (yes a) b = absurd (omega (arith, sum_before q v w a))
    go (no a) (yes b) = absurd (omega (arith, sum_before q w v b))
    go (no a) (no b) = let x : v ≡ w = omega arith in (x, omega (arith, ap (λ (y : ℕ). sum y q) x))
