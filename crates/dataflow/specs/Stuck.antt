-- Stuck, in both wordings.
use Rattle.std.specs.Prelude.{◌≡◌, List, ℕ, ◌<◌}
use Rattle.dataflow.specs.Net.{Net}
use Rattle.dataflow.specs.Copies.{Dependence}
use Rattle.dataflow.specs.Paths.{Path}
use Rattle.dataflow.specs.Runs.{Run, initially, after}

module _ (G : Net) (D : G.Queue → ℕ) where
  -- The copies have a loop of delay 0: a path from copy j to copy i, and a dependence from i back to j.
  pub record Stuck : Type 0 where
    pub queue : G.Queue
    pub i : ℕ
    pub j : ℕ
    pub sum : ℕ
    pub path : Path G D (G.sink queue) j (G.source queue) i sum
    pub closes : Dependence G D queue i j 0

  -- One round can be fired one station at a time.
  pub record RoundFires : Type 0 where
    pub order : List ℕ
    pub run : Run G (initially G D) order
    pub all_fired : (v : ℕ) → v < G.stations → (after G (initially G D) order).fired v ≡ G.q v
