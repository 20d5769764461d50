-- The word that a refusal's line has.
use Rattle.std.specs.Prelude.{ℕ, ◌≡◌, List, Option, None, Some}
use Rattle.refusals.specs.Table.{Refusal, number, word}

-- it is the word of the refusal with the number n; where no refusal has it, there is none
pub record Spelled (n : ℕ) (r : Option (List ℕ)) : Type 0 where
  pub known : (k : Refusal) → number k ≡ n → r ≡ Some (word k)
  pub unknown : ((k : Refusal) → number k ≡ n → ⊥) → r ≡ None
