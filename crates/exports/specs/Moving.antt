-- What one move answers, as numbers.
use Rattle.std.specs.Prelude.{ℕ, refl, List, [], ◌∷◌, ◌++◌, ℤ, pos}
use Rattle.refusals.specs.Answer.{Kind, Answers}
use Rattle.sheet.specs.Format.{sheet_of}
use Rattle.checks.specs.Check.{check_rows}
use Rattle.moves.specs.declared.Moved as library
use Rattle.moves.specs.Moving.{move_row, Goes}
use Rattle.exports.specs.declared.moving.Moved.{Moved}

-- a refusal's number and place, and every other number 0
abbrev pub moved_kind : Kind Moved
moved_kind = record {
  number = λ a. a.number;
  place = λ a. a.place;
  refusal = λ number place. record { number = number; place = place; copy = 0; shift = pos 0 };
  tells_number = λ number place. refl;
  tells_place = λ number place. refl;
}

-- where a copy goes
abbrev pub as_moved : library.Moved → Moved
as_moved a = record { number = 0; place = 0; copy = a.copy; shift = a.shift }

-- the move of copy i of v by r, for a sheet's bytes: the first of the rows that applies and nothing else, or where the copy goes
abbrev pub TellsMove : (s : List ℕ) (v i : ℕ) (r : ℤ) → Moved → Type 0
TellsMove s v i r = Answers moved_kind (check_rows s ++ move_row (sheet_of s) v i r ∷ []) (λ a. Goes (sheet_of s) v i r (record { copy = a.copy; shift = a.shift }))
