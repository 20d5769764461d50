-- One round of the search: every r(v) rises at once by the number of late copies of v.
use Rattle.std.specs.Prelude.{ℕ, ◌+◌, ◌*◌, ◌≤◌, ◌<◌, ◌≡◌, List}
use Rattle.lists.specs.Front.{at}
use Rattle.lists.specs.Filled.{Filled}

-- new is the delay of a queue after its sink rose by taken and its source by made
abbrev pub Shifted : (delay consumed taken produced made new : ℕ) → Type 0
Shifted delay consumed taken produced made new = new + produced * made ≡ delay + consumed * taken

-- the new delay is not negative, and small enough
pub record ShiftFits (delay consumed taken produced made : ℕ) : Type 0 where
  pub legal : produced * made ≤ delay + consumed * taken
  pub small : delay ≤ 16777216
  pub takes_most : consumed ≤ 64
  pub makes_most : produced ≤ 64
  pub taken_few : taken ≤ 256
  pub made_few : made ≤ 256

-- each new delay is
pub record DelaysFit (m : ℕ) (source sink produced consumed late delay : List ℕ) : Type 0 where
  pub few : m ≤ 64
  pub leaves : (e : ℕ) → e < m → at source e < 32
  pub enters : (e : ℕ) → e < m → at sink e < 32
  pub fits : (e : ℕ) → e < m → ShiftFits (at delay e) (at consumed e) (at late (at sink e)) (at produced e) (at late (at source e))

-- the delays after the rise, and 0 beyond the last
abbrev pub NewDelays : (m : ℕ) (source sink produced consumed late delay new : List ℕ) → Type 0
NewDelays m source sink produced consumed late delay new =
    Filled (λ e x. Shifted (at delay e) (at consumed e) (at late (at sink e)) (at produced e) (at late (at source e)) x) m new

-- the retiming after the rise, and 0 beyond the last station
abbrev pub Raised : (n : ℕ) (late retiming new : List ℕ) → Type 0
Raised n late retiming new = Filled (λ v x. x ≡ at retiming v + at late v) n new
