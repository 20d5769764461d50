-- A round cut in two: the firings of each station before a number of them, and those from it on.
use Rattle.std.specs.Prelude.{ℕ, ◌+◌, ◌-◌, ◌≤◌, ◌<◌, ◌≡◌, List, [], ◌∷◌, ◌++◌, length, take}
use Rattle.std.proofs.Math.Decide.{ℕ_discrete, dec_le, dec_lt}
use Rattle.lists.specs.Front.{at}
use Rattle.lists.specs.Filled.{Filled}
use Rattle.dataflow.specs.Runs.{whenever}

-- the numbers of firings after one more of v
abbrev pub one_more_of : (v : ℕ) (F : ℕ → ℕ) → ℕ → ℕ
one_more_of v F w = F w + whenever (ℕ_discrete w v) 1

-- x is at least low and below high
pub record Between (low x high : ℕ) : Type 0 where
  pub from : low ≤ x
  pub before : x < high

abbrev pub where_between : {low x high : ℕ} → Dec (low ≤ x) → Dec (x < high) → ℕ → List ℕ → List ℕ
where_between (yes a) (yes b) v l = v ∷ l
where_between (yes a) (no b) v l = l
where_between (no a) b v l = l

-- Of a list that goes on after F firings: the firings of each station v from number low(v) on, from 0, and before number high(v).
unfoldable pub between : (low high F : ℕ → ℕ) → List ℕ → List ℕ
between low high F [] = []
between low high F (v ∷ l) = where_between (dec_le (low v) (F v)) (dec_lt (F v) (high v)) v (between low high (one_more_of v F) l)

abbrev pub none_fired : ℕ → ℕ
none_fired v = 0

-- for each station the copies that aren't late, and 0 beyond the last
abbrev pub Keeps : (n : ℕ) (q late keep : List ℕ) → Type 0
Keeps n q late keep = Filled (λ v x. x + at late v ≡ at q v) n keep

-- stations and places are within limits, and the entries that are stored have room
pub record Gatherable (total : ℕ) (low high list : List ℕ) (from : ℕ) (order : List ℕ) : Type 0 where
  pub few : total ≤ 256
  pub long : total ≤ length list
  pub room : length order ≡ 256
  pub stations : (k : ℕ) → k < total → at list k < 32
  pub fits : from + length (between (at low) (at high) none_fired (take total list)) ≤ 256

-- the copies of v that aren't late
abbrev pub keeps : (q late : List ℕ) (v : ℕ) → ℕ
keeps q late v = at q v - at late v

-- the late copies of a round in their order, then its other copies in theirs
unfoldable pub late_first : (q late list : List ℕ) → List ℕ
late_first q late list = between (keeps q late) (at q) none_fired list ++ between none_fired (keeps q late) none_fired list

-- the first entries, in that order, and 0 behind them
pub record Reordered (q late : List ℕ) (total : ℕ) (list new : List ℕ) : Type 0 where
  pub is : take total new ≡ late_first q late (take total list)
  pub rest : (k : ℕ) → total ≤ k → at new k ≡ 0

-- a list of a whole round, of whose copies some are late
pub record Cuttable (n total : ℕ) (q late list : List ℕ) : Type 0 where
  pub few : n ≤ 32
  pub most : total ≤ 256
  pub long : total ≤ length list
  pub stations : (k : ℕ) → k < total → at list k < n
  pub lates : (v : ℕ) → at late v ≤ at q v
  pub beyond : (v : ℕ) → n ≤ v → at q v ≡ 0
  pub whole : length (late_first q late (take total list)) ≡ total
