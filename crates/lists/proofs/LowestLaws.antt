-- The lowest number at which something fails is one number.
use Prim.Native.Nat.{ℕ, ◌<◌}
use mathlib.Core.Path.{◌≡◌, refl, ap}
use Rattle.std.specs.Prelude.{Option, Some, None}
use native.Mathlib.Omega.{arith}
use Rattle.lists.specs.Lowest.{LowestFailing, FirstFailing}
use Rattle.lists.proofs.Order.{order}

module _ {P : ℕ → Type 0} {m : ℕ} where
  not_below : {r r' : ℕ} → LowestFailing P m r → LowestFailing P m r' → r < r' → ⊥
  not_below {r} l l' h = l.fails (omega (arith, l'.within)) (l'.below r h)

  pub lowest_failing_once : (r r' : ℕ) → LowestFailing P m r → LowestFailing P m r' → r ≡ r'
  lowest_failing_once r r' l l' = order r r' (λ lt. absurd (not_below l l' lt)) (λ eq. eq) (λ gt. absurd (not_below l' l gt))

  -- a number that was found
  pub found : (e : ℕ) → e < m → ((k : ℕ) → k < e → P k) → (P e → ⊥) → FirstFailing P m (Some e)
  found e h below fails = record { lowest = record { within = omega arith; below = below; fails = λ _. fails }; inside = λ k q. let same : k ≡ e = cc in omega arith }

  -- none was found
  pub found_none : ((k : ℕ) → k < m → P k) → FirstFailing P m None
  found_none all = record { lowest = record { within = omega arith; below = all; fails = λ h. absurd (omega arith) }; inside = λ k q. absurd (cc) }

  pub first_failing_once : (r r' : Option ℕ) → FirstFailing P m r → FirstFailing P m r' → r ≡ r'
  first_failing_once None None f f' = refl
  first_failing_once None (Some e) f f' = absurd (let s = lowest_failing_once _ _ f.lowest f'.lowest in omega (arith, f'.inside e refl))
  first_failing_once (Some e) None f f' = absurd (let s = lowest_failing_once _ _ f.lowest f'.lowest in omega (arith, f.inside e refl))
  first_failing_once (Some e) (Some k) f f' = ap Some (lowest_failing_once _ _ f.lowest f'.lowest)
