-- The origin of a token, as numbers.
use Rattle.std.specs.Prelude.{ℕ, ◌≡◌, List, Result, Ok, Err}
use Rattle.refusals.specs.declared.refusal.Refusal.{Refusal}
use Rattle.refusals.specs.Refused.{number_of, place_of}
use Rattle.tokens.specs.declared.Origin.{Origin}
use Rattle.tokens.specs.declared.Origin.TheVariants.{Initial, Made}
use Rattle.tokens.specs.Told.{TellsToken}
use Rattle.exports.specs.declared.told.TokenOrigin.{TokenOrigin}

-- the kind and the values of each case; a refusal is kind 0
abbrev pub numbers_of : Result Origin Refusal → TokenOrigin
numbers_of (Ok (Initial place)) = record { number = 0; place = 0; kind = 1; firing = 0; token = place }
numbers_of (Ok (Made firing place)) = record { number = 0; place = 0; kind = 2; firing = firing; token = place }
numbers_of (Err e) = record { number = number_of e; place = place_of e; kind = 0; firing = 0; token = 0 }

-- the numbers of what the library tells of token k of firing g of the sink of queue e, for a sheet's bytes
pub record TellsNumbers (s : List ℕ) (e g k : ℕ) (a : TokenOrigin) : Type 0 where
  pub origin : Result Origin Refusal
  pub tells : TellsToken s e g k origin
  pub told : a ≡ numbers_of origin
