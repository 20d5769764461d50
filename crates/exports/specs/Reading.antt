-- What reading answers, as numbers.
use Rattle.std.specs.Prelude.{ℕ, ◌≡◌, refl, List}
use Rattle.refusals.specs.Answer.{Kind, Answers}
use Rattle.sheet.specs.declared.Sheet.{Sheet}
use Rattle.sheet.specs.Format.{sheet_of}
use Rattle.sheet.specs.Read.{read_rows, blank}
use Rattle.exports.specs.declared.reading.Reading.{Reading}

-- a refusal's number and place, and a blank sheet
abbrev pub read_kind : Kind Reading
read_kind = record {
  number = λ r. r.number;
  place = λ r. r.place;
  refusal = λ number place. record { number = number; place = place; sheet = blank };
  tells_number = λ number place. refl;
  tells_place = λ number place. refl;
}

-- a sheet that is accepted
abbrev pub as_reading : Sheet → Reading
as_reading sheet = record { number = 0; place = 0; sheet = sheet }

-- the first refusal that applies and nothing else, or the sheet
abbrev pub TellsSheet : (s : List ℕ) → Reading → Type 0
TellsSheet s = Answers read_kind (read_rows s) (λ r. r.sheet ≡ sheet_of s)
