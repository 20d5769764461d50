-- Paths that enter each next copy by the first token that the copy before it puts (source document 004, Theorems 7 and 8).
use Rattle.std.specs.Prelude.{◌≡◌, ℕ, ◌+◌, ◌≤◌}
use Rattle.dataflow.specs.Net.{Net}
use Rattle.dataflow.specs.Places.{place_put, Takes}
use Rattle.dataflow.specs.Copies.{Copy}

-- Firing g of the sink takes the first token that firing f of the source puts.
abbrev pub TakesFirst : (delay produced consumed f g : ℕ) → Type 0
TakesFirst delay produced consumed f g = Takes consumed g (place_put delay produced f 1)

module _ (G : Net) (D : G.Queue → ℕ) where
  -- Every queue into v holds at least one firing's worth.
  abbrev pub Open : ℕ → Type 0
  Open v = (e : G.Queue) → G.sink e ≡ v → G.consumed e ≤ D e

  -- A path of copies of one round, from copy i of u to copy j of v, that enters each next copy by the first token of the copy before it. S is its sum: the times of its stations and the
  -- costs of its steps. One copy alone is such a path.
  pub data FirstPath : (u i v j S : ℕ) → Type 0 where
    begins : {v i : ℕ} → Copy G v i → FirstPath v i v i (G.time v)
    enters : {u i h j S : ℕ} (e : G.Queue) → FirstPath u i (G.source e) h S → TakesFirst (D e) (G.produced e) (G.consumed e) h j → j ≤ G.q (G.sink e)
        → FirstPath u i (G.sink e) j (S + G.cost e + G.time (G.sink e))

  -- P is the largest sum of such a path from the first copy of an open station.
  pub record FirstPeriod (P : ℕ) : Type 0 where
    pub first : ℕ
    pub opens : Open first
    pub last : ℕ
    pub last_copy : ℕ
    pub reached : FirstPath first 1 last last_copy P
    pub passed_by_none : (u v j S : ℕ) → Open u → FirstPath u 1 v j S → S ≤ P
