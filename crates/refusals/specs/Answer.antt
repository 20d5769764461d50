-- An answer of any kind: a refusal, or what was asked for.
use Rattle.std.specs.Prelude.{ℕ, ◌≡◌, List}
use Rattle.refusals.specs.First.{Row, First}

-- How answers tell a refusal: its number, 0 where there is none, and its place; and the answer that is this refusal and nothing else.
pub record Kind (R : Type 0) : Type 0 where
  pub number : R → ℕ
  pub place : R → ℕ
  pub refusal : (number place : ℕ) → R
  pub tells_number : (k p : ℕ) → number (refusal k p) ≡ k
  pub tells_place : (k p : ℕ) → place (refusal k p) ≡ p

-- r is the first of the rows that applies and nothing else, or P holds of it
pub record Answers {R : Type 0} (kind : Kind R) (rows : List Row) (P : R → Type 0) (r : R) : Type 0 where
  pub verdict : First rows (kind.number r) (kind.place r)
  pub accepted : kind.number r ≡ 0 → P r
  pub refused : (kind.number r ≡ 0 → ⊥) → r ≡ kind.refusal (kind.number r) (kind.place r)
