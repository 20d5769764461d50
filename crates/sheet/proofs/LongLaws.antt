-- A sheet has at most 788 bytes: more are refused by 2, 3 or 4, whatever rows follow those of reading, and whatever follows the first 789 bytes.
use Prim.Native.Nat.{ℕ, zero, suc, ◌+◌, ◌*◌, ◌≤◌, ◌<◌}
use mathlib.Core.Path.{◌≡◌, sym, ap, ap₂, ◌∙◌}
use mathlib.Core.List.{List, ◌++◌}
use native.Mathlib.Omega.{arith}
use lib.ListN.{length, take}
use lib.Seq.{length-take-le, get_or-take}
use Rattle.refusals.specs.Table.{Refusal}
use Rattle.refusals.specs.First.{Row, row, Passed, Lowest, nth, First, given, free}
use Rattle.little.specs.Little.{u16le}
use Rattle.sheet.specs.Format.{version, stations, queues, sheet_end}
use Rattle.sheet.specs.Read.{HeaderFits, Laid, read_rows}

-- no bytes of this length are laid out as a sheet
not_laid : (s : List ℕ) → 788 < length s → version s ≡ 1 → HeaderFits s → Laid s → ⊥
not_laid s long known header laid = omega (arith, laid.ends, header.counts.stations, header.counts.queues, ap (λ (x : ℕ). sheet_end x (stations s) (queues s)) known)

module _ (s : List ℕ) (more : List Row) (long : 788 < length s) where
  -- version, counts and layout aren't all right
  one_applies : ((j : ℕ) → j < 4 → Passed (nth (read_rows s ++ more) j)) → ⊥
  one_applies p =
      p 3 (omega arith) 0 (λ laid.
      p 2 (omega arith) 0 (λ header.
      p 1 (omega arith) 0 (λ known.
      not_laid s long known header laid)))

  pub long_first : {number place : ℕ} → First (read_rows s ++ more) number place → (2 ≤ number) × (number ≤ 4)
  long_first (given zero b f l) = absurd (omega (arith, l.applies))
  long_first (given (suc zero) b f l) = (omega arith, omega arith)
  long_first (given (suc (suc zero)) b f l) = (omega arith, omega arith)
  long_first (given (suc (suc (suc zero))) b f l) = (omega arith, omega arith)
  long_first (given (suc (suc (suc (suc i)))) b f l) = absurd (one_applies (λ j h. f j (omega arith)))
  long_first (free f) = absurd (one_applies (λ j h. f j (omega arith)))

-- a number within the first bytes
field : (most : ℕ) (s : List ℕ) (i : ℕ) → i + 1 < most → u16le (take most s) i ≡ u16le s i
field most s i h = ap₂ (λ (x y : ℕ). x + 256 * y) (get_or-take most s i 0 (omega arith)) (get_or-take most s (i + 1) 0 h)

-- a row that names no place, for another reason
still_lowest : {k : Refusal} {a b : Type 0} {place : ℕ} → b → Lowest (row k a) place → Lowest (row k b) place
still_lowest why l = record { applies = why; none_below = λ i h x. l.none_below i h l.applies }

-- the first bytes of a longer input, more than a sheet has, are refused as the input is
module _ (input : List ℕ) (most : ℕ) (enough : 788 < most) (long : most < length input) (more more' : List Row) where
  abbrev s : List ℕ
  s = take most input

  s_long : 788 < length s
  s_long = omega (arith, length-take-le most input (omega arith))

  same_version : version s ≡ version input
  same_version = field most input 0 (omega arith)

  header_there : HeaderFits s → HeaderFits input
  header_there h = omega (arith, h.counts.some, h.counts.stations, h.counts.queues, h.zero, field most input 2 (omega arith), field most input 4 (omega arith), field most input 6 (omega arith))

  header_back : HeaderFits input → HeaderFits s
  header_back h = omega (arith, h.counts.some, h.counts.stations, h.counts.queues, h.zero, field most input 2 (omega arith), field most input 4 (omega arith), field most input 6 (omega arith))

  still_passed : (k : ℕ) → k ≤ 3 → ((j : ℕ) → j < k → Passed (nth (read_rows s ++ more) j)) → (j : ℕ) → j < k → Passed (nth (read_rows input ++ more') j)
  still_passed k h f zero b = λ p a. omega arith
  still_passed k h f (suc zero) b = λ p a. f 1 b p (λ e. a (sym same_version ∙ e))
  still_passed k h f (suc (suc zero)) b = λ p a. f 2 b p (λ e. a (header_there e))
  still_passed k h f (suc (suc (suc j))) b = absurd (omega arith)

  pub front_first : {number place : ℕ} → First (read_rows s ++ more) number place → First (read_rows input ++ more') number place
  front_first (given zero b f l) = absurd (omega (arith, l.applies, s_long))
  front_first (given (suc zero) b f l) = given 1 (omega arith) (still_passed 1 (omega arith) f) (still_lowest (λ e. l.applies (same_version ∙ e)) l)
  front_first (given (suc (suc zero)) b f l) = given 2 (omega arith) (still_passed 2 (omega arith) f) (still_lowest (λ e. l.applies (header_back e)) l)
  front_first (given (suc (suc (suc zero))) b f l) =
      given 3 (omega arith) (still_passed 3 (omega arith) f)
      (still_lowest
      (λ laid. f 2 (omega arith) 0 (λ header. f 1 (omega arith) 0 (λ known. not_laid input (omega arith) (sym same_version ∙ known) (header_there header) laid)))
      l)
  front_first (given (suc (suc (suc (suc i)))) b f l) = absurd (one_applies s more s_long (λ j h. f j (omega arith)))
  front_first (free f) = absurd (one_applies s more s_long (λ j h. f j (omega arith)))
