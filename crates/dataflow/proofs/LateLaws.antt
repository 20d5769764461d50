-- The number of late copies: they are the last ones of their station.
use mathlib.Core.Path.{◌≡◌, refl, ap}
use Prim.Native.Nat.{ℕ, zero, suc, ◌+◌, ◌≤◌, ◌<◌}
use native.Mathlib.Omega.{arith}
use native.Mathlib.Decide.{dec_le}
use Rattle.dataflow.specs.Net.{Net, Sound}
use Rattle.dataflow.specs.Copies.{Copy}
use Rattle.dataflow.specs.Paths.{Late}
use Rattle.dataflow.specs.Search.{HowMany, none, this, other}
use Rattle.dataflow.proofs.PathLaws.{path_end, late_up}

pub few_of : {P : ℕ → Type 0} {m k : ℕ} → HowMany P m k → k ≤ m
few_of none = omega arith
few_of (this h p) = omega (arith, few_of h)
few_of (other h n) = omega (arith, few_of h)

pub many_last : {P : ℕ → Type 0} {m k : ℕ} → HowMany P m k → 1 ≤ m → P m → 1 ≤ k
many_last none a p = absurd (omega arith)
many_last (this h x) a p = omega arith
many_last (other h n) a p = absurd (n p)

-- they can be counted in one way only
pub many_once : {P : ℕ → Type 0} {m k : ℕ} (k' : ℕ) → HowMany P m k → HowMany P m k' → k ≡ k'
many_once k' none none = refl
many_once k' (this h p) (this h' p') = ap suc (many_once _ h h')
many_once k' (this h p) (other h' n) = absurd (n p)
many_once k' (other h n) (this h' p) = absurd (n p)
many_once k' (other h n) (other h' n') = many_once _ h h'

-- it is enough to know P of the numbers 1 to m
pub many_same : {P Q : ℕ → Type 0} {m k : ℕ} → ((i : ℕ) → 1 ≤ i → i ≤ m → P i → Q i) → ((i : ℕ) → 1 ≤ i → i ≤ m → Q i → P i) → HowMany P m k → HowMany Q m k
many_same to from none = none
many_same to from (this {m = m} h p) = this (many_same (λ i a b. to i a (omega arith)) (λ i a b. from i a (omega arith)) h) (to (suc m) (omega arith) (omega arith) p)
many_same to from (other {m = m} h n) = other (many_same (λ i a b. to i a (omega arith)) (λ i a b. from i a (omega arith)) h) (λ x. n (from (suc m) (omega arith) (omega arith) x))

unfoldable pub many_dec : (P : ℕ → Type 0) → ((i : ℕ) → Dec (P i)) → (m : ℕ) → (k : ℕ) × HowMany P m k
many_dec P w zero = (0, none)
many_dec P w (suc m) = go (many_dec P w m) (w (suc m))
  where
    go : (k : ℕ) × HowMany P m k → Dec (P (suc m)) → (k : ℕ) × HowMany P (suc m) k
    go h (yes y) = (suc h.0, this h.1 y)
    go h (no n) = (h.0, other h.1 n)

-- exactly the last k of the numbers 1 to m are such that P
pub record Last (P : ℕ → Type 0) (m k : ℕ) : Type 0 where
  pub last : (i : ℕ) → 1 ≤ i → i ≤ m → m < i + k → P i
  pub only : (i : ℕ) → 1 ≤ i → i ≤ m → P i → m < i + k

pub last_of : {P : ℕ → Type 0} {m k : ℕ} → HowMany P m k → ((i j : ℕ) → P i → i ≤ j → j ≤ m → P j) → Last P m k
last_of none up = record { last = λ i a b c. absurd (omega arith); only = λ i a b p. absurd (omega arith) }
last_of {P} (this {m = m} {k = k} h p) up = go (last_of h (λ i j a b c. up i j a b (omega arith)))
  where
    go : Last P m k → Last P (suc m) (suc k)
    go r = record {
      last = λ i a b c. elim (dec_le i m) [ yes l ↦ r.last i a l (omega arith) | no l ↦ let e : i ≡ suc m = omega arith in rw e p ];
      only = λ i a b c. elim (dec_le i m) [ yes l ↦ omega (arith, r.only i a l c) | no l ↦ omega arith ];
    }
last_of {P} (other {m = m} {k = k} h n) up = go (last_of h (λ i j a b c. up i j a b (omega arith)))
  where
    never : (i : ℕ) → i ≤ suc m → ¬ P i
    never i b p = n (up i (suc m) p b (omega arith))

    go : Last P m k → Last P (suc m) k
    go r = record {
      last = λ i a b c. absurd (elim (dec_le 1 m) [ yes l ↦ never m (omega arith) (r.last m l (omega arith) (omega (arith, few_of h))) | no l ↦ omega (arith, few_of h) ]);
      only = λ i a b c. absurd (never i b c);
    }

-- Of each station v the late copies are exactly the last late(v).
pub record Lates (G : Net) (D : G.Queue → ℕ) (T : ℕ) (late : ℕ → ℕ) : Type 0 where
  pub few : (v : ℕ) → late v ≤ G.q v
  pub last : (v i : ℕ) → Copy G v i → G.q v < i + late v → Late G D T v i
  pub only : (v i : ℕ) → Late G D T v i → G.q v < i + late v

pub lates_of : (G : Net) (W : Sound G) (D : G.Queue → ℕ) (T : ℕ) (late : ℕ → ℕ) → ((v : ℕ) → HowMany (Late G D T v) (G.q v) (late v)) → Lates G D T late
lates_of G W D T late h = record {
  few = λ v. few_of (h v);
  last = λ v i c l. (w v).last i c.low c.high l;
  only = λ v i l. (w v).only i (path_end G W l.path).low (path_end G W l.path).high l;
}
  where
    w : (v : ℕ) → Last (Late G D T v) (G.q v) (late v)
    w v = last_of (h v) (λ i j l a b. late_up G W j l a b)
