-- What writing answers, as numbers.
use Rattle.std.specs.Prelude.{ℕ, ◌≡◌, refl, List, ◌++◌, length, drop}
use Rattle.refusals.specs.First.{Row}
use Rattle.refusals.specs.Answer.{Kind, Answers}
use Rattle.sheet.specs.declared.Sheet.{Sheet}
use Rattle.sheet.specs.Format.{sheet_end, bytes_of}
use Rattle.sheet.specs.Write.{write_rows}
use Rattle.exports.specs.declared.writing.Written.{Written}

-- a refusal's number and place, and no length
abbrev pub written_kind : Kind Written
written_kind = record {
  number = λ r. r.number;
  place = λ r. r.place;
  refusal = λ number place. record { number = number; place = place; length = 0 };
  tells_number = λ number place. refl;
  tells_place = λ number place. refl;
}

-- a sheet that was written
abbrev pub as_written : ℕ → Written
as_written length = record { number = 0; place = 0; length = length }

-- the first of the rows that applies and nothing else, or the number of bytes needed
abbrev pub JudgesLength : (rows : List Row) (needed : ℕ) → Written → Type 0
JudgesLength rows needed = Answers written_kind rows (λ r. r.length ≡ needed)

-- a lent buffer afterwards: the sheet's bytes at its front and its rest as it was, or on a refusal all of it as it was
pub record TellsLength (f : Sheet) (before after : List ℕ) (r : Written) : Type 0 where
  pub judged : JudgesLength (write_rows f (length before)) (sheet_end f.version f.n f.m) r
  pub accepted : r.number ≡ 0 → after ≡ bytes_of f ++ drop (length (bytes_of f)) before
  pub refused : (r.number ≡ 0 → ⊥) → after ≡ before
