-- The laws of a list that is filled from its first entry on.
use Prim.Native.Nat.{ℕ, ◌+◌, ◌≤◌, ◌<◌}
use mathlib.Core.Path.{◌≡◌, sym, ◌∙◌}
use mathlib.Core.List.{List}
use mathlib.Core.Logic.{⊎_elim}
use native.Mathlib.Decide.{ℕ_discrete}
use native.Mathlib.Omega.{arith}
use lib.ListN.{length, set, replicate}
use lib.Seq.{ext_get_or, get_or-set_same, get_or-set_other}
use Rattle.lists.specs.Front.{at}
use Rattle.lists.specs.Filled.{Filled}
use Rattle.lists.proofs.StoreLaws.{at_zeros}
use Rattle.lists.proofs.Order.{lt_or_ge}

-- two lists of one length that agree on the first entries and are 0 beyond them
pub same_list : (k : ℕ) (l l' : List ℕ) → length l ≡ length l' → ((i : ℕ) → i < k → at l i ≡ at l' i) → ((i : ℕ) → k ≤ i → at l i ≡ 0) → ((i : ℕ) → k ≤ i → at l' i ≡ 0) → l ≡ l'
same_list k l l' same front rest rest' = ext_get_or 0 l l' same (λ i b. ⊎_elim (front i) (λ h. rest i h ∙ sym (rest' i h)) (lt_or_ge i k))

module _ {P : ℕ → ℕ → Type 0} where
  pub filled_none : (size : ℕ) → Filled P 0 (replicate size 0)
  filled_none size = record { is = λ i b. absurd (omega arith); rest = λ i b. at_zeros size i }

  pub filled_more : {l : List ℕ} {k : ℕ} (x : ℕ) → k < length l → P k x → Filled P k l → Filled P (k + 1) (set l k x)
  filled_more {l} {k} x h p z = record {
    is = λ i b. elim (ℕ_discrete i k) [
      | yes e ↦ rw (e, get_or-set_same l k x 0 h) p
      | no n ↦ rw (get_or-set_other l k i x 0 n) (z.is i (omega arith))
    ];
    rest = λ i b. get_or-set_other l k i x 0 (λ e. omega arith) ∙ z.rest i (omega arith);
  }

  -- where P leaves one entry for each place, no second list of the same length is filled so
  pub filled_once : (k : ℕ) (l l' : List ℕ) → ((i x y : ℕ) → i < k → P i x → P i y → x ≡ y) → Filled P k l → Filled P k l' → length l ≡ length l' → l ≡ l'
  filled_once k l l' one z z' same = same_list k l l' same (λ i h. one i _ _ h (z.is i h) (z'.is i h)) z.rest z'.rest
