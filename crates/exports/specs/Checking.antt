-- What a hand check answers, as numbers.
use Rattle.std.specs.Prelude.{ℕ, refl, List, ◌++◌, ℤ}
use Rattle.refusals.specs.Answer.{Kind, Answers}
use Rattle.sheet.specs.Format.{sheet_of}
use Rattle.checks.specs.Check.{check_rows}
use Rattle.hand.specs.Hand.{hand_rows, Tried}
use Rattle.exports.specs.declared.checking.HandPeriod.{HandPeriod}

-- a refusal's number and place, and the period 0
abbrev pub hand_kind : Kind HandPeriod
hand_kind = record {
  number = λ a. a.number;
  place = λ a. a.place;
  refusal = λ number place. record { number = number; place = place; period = 0 };
  tells_number = λ number place. refl;
  tells_place = λ number place. refl;
}

-- a period that is within the target
abbrev pub as_hand_period : ℕ → HandPeriod
as_hand_period period = record { number = 0; place = 0; period = period }

-- the check of the hand list l, for a sheet's bytes: the first of the rows that applies and nothing else, or the resulting period
abbrev pub TellsPeriod : (s : List ℕ) (l : List ℤ) → HandPeriod → Type 0
TellsPeriod s l = Answers hand_kind (check_rows s ++ hand_rows (sheet_of s) l) (λ a. Tried (sheet_of s) l a.period)
