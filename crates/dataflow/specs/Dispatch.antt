-- The dispatcher's part.
use Rattle.std.specs.Prelude.{List, ℕ, zero, suc, ◌-◌, ◌%◌, ◌<◌, drop}
use Rattle.std.proofs.Math.Decide.{dec_lt}

-- The rest of one of the two lent lists, from a place on.
pub data Part : Type 0 where
  of_start : (place : ℕ) → Part
  of_round : (place : ℕ) → Part

-- (done - the start list's length) modulo the round list's own length; 0 if that list is empty
abbrev pub round_place : (starts rounds done : ℕ) → ℕ
round_place starts zero done = 0
round_place starts (suc n) done = (done - starts) % suc n

-- While fewer are done than the start list has, it is that list's rest; after that the round list from its place.
abbrev pub chosen : (starts rounds done : ℕ) → Dec (done < starts) → Part
chosen starts rounds done (yes h) = of_start done
chosen starts rounds done (no h) = of_round (round_place starts rounds done)

abbrev pub part : (starts rounds done : ℕ) → Part
part starts rounds done = chosen starts rounds done (dec_lt done starts)

-- What the part holds.
abbrev pub firings : (start round : List ℕ) → Part → List ℕ
firings start round (of_start place) = drop place start
firings start round (of_round place) = drop place round
