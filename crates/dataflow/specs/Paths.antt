-- Zero-delay paths, period, late copies.
use Rattle.std.specs.Prelude.{ℕ, ◌+◌, ◌≤◌, ◌<◌}
use Rattle.dataflow.specs.Net.{Net}
use Rattle.dataflow.specs.Copies.{Copy, Dependence}

module _ (G : Net) (D : G.Queue → ℕ) where
  -- A path of copies from copy i of u to copy j of v whose dependences all have delay 0. S is its sum: the times of its stations and the costs of its steps.
  -- One copy alone is such a path.
  pub data Path : (u i v j S : ℕ) → Type 0 where
    alone : {v i : ℕ} → Copy G v i → Path v i v i (G.time v)
    step : {u i h j S : ℕ} (e : G.Queue) → Path u i (G.source e) h S → Dependence G D e h j 0 → Path u i (G.sink e) j (S + G.cost e + G.time (G.sink e))

  -- No such path sums to more than T.
  abbrev pub Within : (T : ℕ) → Type 0
  Within T = (u i v j S : ℕ) → Path u i v j S → S ≤ T

  -- P is the largest sum of such a path.
  pub record Period (P : ℕ) : Type 0 where
    pub first : ℕ
    pub first_copy : ℕ
    pub last : ℕ
    pub last_copy : ℕ
    pub reached : Path first first_copy last last_copy P
    pub passed_by_none : Within P

  -- Copy j of v is late for the target T: some zero-delay path ending in it sums to more than T.
  pub record Late (T v j : ℕ) : Type 0 where
    pub first : ℕ
    pub first_copy : ℕ
    pub sum : ℕ
    pub path : Path first first_copy v j sum
    pub slow : T < sum
