-- Retimings over whole numbers.
use Rattle.std.specs.Prelude.{List, ℕ, ◌≤◌, ◌<◌, get_or, ℤ, pos, negsuc, ◌+ℤ◌, ◌-ℤ◌, ◌*ℤ◌}
use Rattle.dataflow.specs.Whole.{up}
use Rattle.dataflow.specs.Net.{Net}
use Rattle.dataflow.specs.Paths.{Within}

abbrev pub NotNegative : ℤ → Type 0
NotNegative (pos n) = Unit {0}
NotNegative (negsuc n) = ⊥

-- Natural numbers as a retiming: one with no negative entry.
abbrev pub whole : (ℕ → ℕ) → ℕ → ℤ
whole r v = pos (r v)

-- A hand list as a retiming.
abbrev pub by_hand : List ℤ → ℕ → ℤ
by_hand l v = get_or l v (pos 0)

module _ (G : Net) (d : G.Queue → ℕ) where
  -- New delay = delay + consumed × r(sink) - produced × r(source).
  abbrev pub new_delay : (r : ℕ → ℤ) (e : G.Queue) → ℤ
  new_delay r e = pos (d e) +ℤ pos (G.consumed e) *ℤ r (G.sink e) -ℤ pos (G.produced e) *ℤ r (G.source e)

  -- Legal: no new delay is negative.
  abbrev pub Legal : (r : ℕ → ℤ) → Type 0
  Legal r = (e : G.Queue) → NotNegative (new_delay r e)

  -- The new delays of a legal retiming as numbers of tokens; none has a part below 0.
  abbrev pub retimed : (r : ℕ → ℤ) → G.Queue → ℕ
  retimed r e = up (new_delay r e)

  -- r serves the target T.
  pub record Serves (T : ℕ) (r : ℕ → ℤ) : Type 0 where
    pub legal : Legal r
    pub within : Within G (retimed r) T

  -- The plan's retiming: of all that serve and have no negative entry, the one that is smallest at every station.
  pub record PlanRetiming (T : ℕ) (r : ℕ → ℕ) : Type 0 where
    pub serves : Serves T (whole r)
    pub least : (s : ℕ → ℕ) → Serves T (whole s) → (v : ℕ) → v < G.stations → r v ≤ s v
