-- What the origin of a token is told as: refusals 1 to 8 with 16, and 15, or the token.
use Rattle.std.specs.Prelude.{ℕ, ◌≤◌, ◌<◌, ◌≡◌, List, [], ◌∷◌, ◌++◌, Result}
use Rattle.lists.specs.Front.{at}
use Rattle.refusals.specs.First.{Row}
use Rattle.refusals.specs.Refused.{Answered}
use Rattle.refusals.specs.declared.refusal.Refusal.{Refusal}
use Rattle.dataflow.specs.Runs.{Token, initial, made}
use Rattle.dataflow.specs.Promise.{OriginPromise}
use Rattle.dataflow.specs.Refusals.{HasNumber}
use Rattle.dataflow.specs.Refusals as nets
use Rattle.sheet.specs.declared.Sheet.{Sheet}
use Rattle.sheet.specs.Format.{sheet_of}
use Rattle.checks.specs.Check.{net_for, delays_for, check_rows}
use Rattle.tokens.specs.declared.Origin.{Origin}
use Rattle.tokens.specs.declared.Origin.TheVariants.{Initial, Made}

-- the case that tells a token
abbrev pub told_as : Token → Origin
told_as (initial place) = Initial place
told_as (made firing place) = Made firing place

-- 15; the counts play no part in it, nor in the runs of the sheet
abbrev pub token_row : Sheet → (e g k : ℕ) → Row
token_row f e g k = nets.token_row (net_for f []) e g k

-- there are such a queue, firing and token, by the sheet's columns
pub record Asks (f : Sheet) (e g k : ℕ) : Type 0 where
  pub queue : e < f.m
  pub firing_low : 1 ≤ g
  pub firing_high : g ≤ 1000000
  pub token_low : 1 ≤ k
  pub token_high : k ≤ at f.consumed e

-- r tells token k of firing g of the sink of queue e of the sheet f
pub record Told (f : Sheet) (e g k : ℕ) (r : Origin) : Type 0 where
  pub queue : (net_for f []).Queue
  pub is : HasNumber (net_for f []) queue e
  pub token : Token
  pub promise : OriginPromise (net_for f []) (delays_for f []) queue g k token
  pub told : r ≡ told_as token

-- the origin of token k of firing g of the sink of queue e, for a sheet's bytes
abbrev pub TellsToken : (s : List ℕ) (e g k : ℕ) → Result Origin Refusal → Type 0
TellsToken s e g k = Answered (check_rows s ++ token_row (sheet_of s) e g k ∷ []) (Told (sheet_of s) e g k)
