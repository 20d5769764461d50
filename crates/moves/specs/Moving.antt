-- What one move answers: refusals 1 to 8 with 16, and 12, or where the copy goes.
use Rattle.std.specs.Prelude.{ℕ, List, [], ◌∷◌, ◌++◌, ℤ, Result}
use Rattle.refusals.specs.Table.{hand}
use Rattle.refusals.specs.First.{Row}
use Rattle.refusals.specs.Refused.{Answered}
use Rattle.refusals.specs.declared.refusal.Refusal.{Refusal}
use Rattle.dataflow.specs.Promise.{MovePromise}
use Rattle.dataflow.specs.Refusals.{MoveFits}
use Rattle.sheet.specs.declared.Sheet.{Sheet}
use Rattle.sheet.specs.Format.{sheet_of}
use Rattle.checks.specs.Check.{net_for, CountsOf, counted_row, check_rows}
use Rattle.moves.specs.declared.Moved.{Moved}

-- 12, for one move
abbrev pub move_row : Sheet → (v i : ℕ) (r : ℤ) → Row
move_row f v i r = counted_row f hand (λ q. ¬ MoveFits (net_for f q) v i r)

-- where copy i of v moves by r, with the counts of the sheet f
pub record Goes (f : Sheet) (v i : ℕ) (r : ℤ) (a : Moved) : Type 0 where
  pub q : List ℕ
  pub counts : CountsOf f q
  pub promise : MovePromise (net_for f q) v i r a.copy a.shift

-- the move of copy i of v by r, for a sheet's bytes
abbrev pub OneMove : (s : List ℕ) (v i : ℕ) (r : ℤ) → Result Moved Refusal → Type 0
OneMove s v i r = Answered (check_rows s ++ move_row (sheet_of s) v i r ∷ []) (Goes (sheet_of s) v i r)
