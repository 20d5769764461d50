-- The lowest number at which something fails.
use Rattle.std.specs.Prelude.{ℕ, ◌≤◌, ◌<◌, ◌≡◌, Option, Some, None}

-- r is the lowest number below m at which P fails, or m where P holds at each
pub record LowestFailing (P : ℕ → Type 0) (m r : ℕ) : Type 0 where
  pub within : r ≤ m
  pub below : (k : ℕ) → k < r → P k
  pub fails : r < m → P r → ⊥

-- where the search for it ended: at the number that was found, or at m
abbrev pub ended : (m : ℕ) → Option ℕ → ℕ
ended m None = m
ended m (Some e) = e

-- r is the lowest number below m at which P fails, if there is one
pub record FirstFailing (P : ℕ → Type 0) (m : ℕ) (r : Option ℕ) : Type 0 where
  pub lowest : LowestFailing P m (ended m r)
  pub inside : (e : ℕ) → r ≡ Some e → e < m
