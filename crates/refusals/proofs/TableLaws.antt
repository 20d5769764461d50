-- The laws of the table's numbers.
use Prim.Native.Nat.{ℕ, ◌≤◌, ◌<◌}
use mathlib.Core.Path.{◌≡◌, refl, sym, ap, ◌∙◌}
use mathlib.Core.List.{[], ◌∷◌}
use native.Mathlib.Decide.{ℕ_discrete}
use native.Mathlib.Omega.{arith}
use lib.ListN.{get_or}
use Rattle.refusals.specs.Table.{Refusal, short, version, counts, layout, field, apart, counts_fail, stuck, no_retiming, room, hand, negative, slow, token, unbalanced, number}

-- the refusal with a number; short where none has it
numbered : ℕ → Refusal
numbered x = get_or (short ∷ short ∷ version ∷ counts ∷ layout ∷ field ∷ apart ∷ counts_fail ∷ stuck ∷ no_retiming ∷ short ∷ room ∷ hand ∷ negative ∷ slow ∷ token ∷ unbalanced ∷ []) x short

-- each number is from 1 to 16 and not 10, and leads back to its refusal
in_table : (k : Refusal) → ((0 < number k) × ((number k ≤ 16) × (number k ≡ 10 → ⊥))) × (numbered (number k) ≡ k)
unfolding numbered
in_table short = ((omega arith, (omega arith, λ e. omega arith)), refl)
in_table version = ((omega arith, (omega arith, λ e. omega arith)), refl)
in_table counts = ((omega arith, (omega arith, λ e. omega arith)), refl)
in_table layout = ((omega arith, (omega arith, λ e. omega arith)), refl)
in_table field = ((omega arith, (omega arith, λ e. omega arith)), refl)
in_table apart = ((omega arith, (omega arith, λ e. omega arith)), refl)
in_table counts_fail = ((omega arith, (omega arith, λ e. omega arith)), refl)
in_table stuck = ((omega arith, (omega arith, λ e. omega arith)), refl)
in_table no_retiming = ((omega arith, (omega arith, λ e. omega arith)), refl)
in_table room = ((omega arith, (omega arith, λ e. omega arith)), refl)
in_table hand = ((omega arith, (omega arith, λ e. omega arith)), refl)
in_table negative = ((omega arith, (omega arith, λ e. omega arith)), refl)
in_table slow = ((omega arith, (omega arith, λ e. omega arith)), refl)
in_table token = ((omega arith, (omega arith, λ e. omega arith)), refl)
in_table unbalanced = ((omega arith, (omega arith, λ e. omega arith)), refl)

pub number_within : (k : Refusal) → (0 < number k) × (number k ≤ 16)
number_within k = let x = (in_table k).0 in (x.0, x.1.0)

-- no refusal has the number 10
pub number_not_ten : (k : Refusal) → number k ≡ 10 → ⊥
number_not_ten k = (in_table k).0.1.1

-- no two refusals have the same number
pub number_once : (k k' : Refusal) → number k ≡ number k' → k ≡ k'
number_once k k' e = sym (in_table k).1 ∙ ap numbered e ∙ (in_table k').1

-- whether a refusal has the number
pub number_dec : (n : ℕ) → Dec ((k : Refusal) × (number k ≡ n))
number_dec n =
    elim (ℕ_discrete (number (numbered n)) n) [
      | yes e ↦ yes (numbered n, e)
      | no d ↦ no (λ has. d (rw (← has.1) (ap number (in_table has.0).1)))
    ]
