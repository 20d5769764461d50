-- Some positive numbers balance every step of a tree.
use Prim.Native.Nat.{ℕ, zero, suc, ◌*◌, ◌≤◌, ◌<◌}
use mathlib.Core.Path.{◌≡◌, refl, ap}
use mathlib.Core.List.{List}
use native.Mathlib.Decide.{ℕ_discrete}
use native.Mathlib.Nat.{one-le-mul}
use native.Mathlib.Omega.{arith}
use Rattle.lists.proofs.Order.{order}
use Rattle.balance.specs.declared.way.Step.{Step}
use Rattle.balance.specs.Way.{step, Steps, StepFits, BalancesStep}

module _ (steps : List Step) (S : Steps steps) where
  -- y is positive and balances the steps below k
  pub record BalancesBelow (k : ℕ) : Type 0 where
    pub y : ℕ → ℕ
    pub positive : (i : ℕ) → 1 ≤ y i
    pub balanced : (i : ℕ) → 1 ≤ i → i < k → BalancesStep steps y i

  -- step k as well: the number at place k is set, and every other is raised to meet it
  module _ (k : ℕ) (some : 1 ≤ k) (h : k < 32) (B : BalancesBelow k) where
    s : StepFits (step steps k) k
    s = S.fits k some h

    raised : (i : ℕ) → Dec (i ≡ k) → ℕ
    raised i (yes e) = B.y (step steps k).up * (step steps k).far
    raised i (no d) = B.y i * (step steps k).near

    abbrev next : ℕ → ℕ
    next i = raised i (ℕ_discrete i k)

    here : (i : ℕ) (d : Dec (i ≡ k)) → i ≡ k → raised i d ≡ B.y (step steps k).up * (step steps k).far
    unfolding raised
    here i (yes e) q = refl
    here i (no d) q = absurd (d q)

    other : (i : ℕ) (d : Dec (i ≡ k)) → (i ≡ k → ⊥) → raised i d ≡ B.y i * (step steps k).near
    unfolding raised
    other i (yes e) n = absurd (n e)
    other i (no d) n = refl

    raised_positive : (i : ℕ) (d : Dec (i ≡ k)) → 1 ≤ raised i d
    unfolding raised
    raised_positive i (yes e) = one-le-mul (B.positive (step steps k).up) s.far_rate.some
    raised_positive i (no d) = one-le-mul (B.positive i) s.near_rate.some

    old : (i : ℕ) → 1 ≤ i → i < k → BalancesStep steps next i
    old i l m =
        let lower = (S.fits i l (omega arith)).lower in
        let b = ap (λ (x : ℕ). x * (step steps k).near) (B.balanced i l m) in
        rw (other i (ℕ_discrete i k) (λ e. omega arith), other (step steps i).up (ℕ_discrete (step steps i).up k) (λ e. omega arith)) (omega arith)

    new : BalancesStep steps next k
    new = rw (here k (ℕ_discrete k k) refl, other (step steps k).up (ℕ_discrete (step steps k).up k) (λ e. omega (arith, s.lower))) (omega arith)

    raise : BalancesBelow (suc k)
    raise = record {
      y = next;
      positive = λ i. raised_positive i (ℕ_discrete i k);
      balanced = λ i l m. order i k (λ lt. old i l lt) (λ eq. rw eq new) (λ gt. absurd (omega arith));
    }

  pub below_exists : (k : ℕ) → k < 32 → BalancesBelow (suc k)
  below_exists zero h = record { y = λ i. 1; positive = λ i. omega arith; balanced = λ i l m. absurd (omega arith) }
  below_exists (suc k) h = raise (suc k) (omega arith) h (below_exists k (omega arith))
