-- What a hand check answers: refusals 1 to 8 with 16, and 12 to 14, or the resulting period.
use Rattle.std.specs.Prelude.{ℕ, List, [], ◌∷◌, ◌++◌, ℤ, Result}
use Rattle.refusals.specs.Table.{slow}
use Rattle.refusals.specs.First.{Row}
use Rattle.refusals.specs.Refused.{Answered}
use Rattle.refusals.specs.declared.refusal.Refusal.{Refusal}
use Rattle.dataflow.specs.Promise.{HandPromise}
use Rattle.dataflow.specs.Refusals as nets
use Rattle.dataflow.specs.Retiming.{by_hand, retimed}
use Rattle.sheet.specs.declared.Sheet.{Sheet}
use Rattle.sheet.specs.Format.{sheet_of}
use Rattle.checks.specs.Check.{net_for, delays_for, CountsOf, counted_row, check_rows}

-- 12 and 13; the counts play no part in them
abbrev pub hand_row : Sheet → List ℤ → Row
hand_row f l = nets.hand_row (net_for f []) l

abbrev pub negative_row : Sheet → List ℤ → Row
negative_row f l = nets.negative_row (net_for f []) (delays_for f []) (by_hand l)

-- 14
abbrev pub slow_row : Sheet → List ℤ → Row
slow_row f l = counted_row f slow (λ q. (nets.slow_row (net_for f q) (retimed (net_for f q) (delays_for f q) (by_hand l)) f.target).applies 0)

-- 12, 13 and 14
abbrev pub hand_rows : Sheet → List ℤ → List Row
hand_rows f l = hand_row f l ∷ negative_row f l ∷ slow_row f l ∷ []

-- the period that the hand list l gives the sheet f
pub record Tried (f : Sheet) (l : List ℤ) (period : ℕ) : Type 0 where
  pub q : List ℕ
  pub counts : CountsOf f q
  pub promise : HandPromise (net_for f q) (delays_for f q) f.target (by_hand l) period

-- the check of the hand list l, for a sheet's bytes
abbrev pub HandChecks : (s : List ℕ) (l : List ℤ) → Result ℕ Refusal → Type 0
HandChecks s l = Answered (check_rows s ++ hand_rows (sheet_of s) l) (Tried (sheet_of s) l)
