-- A list of firings, made by the ready scan.
use Rattle.std.specs.Prelude.{ℕ, ◌≤◌, ◌<◌, ◌≡◌, Bool, true, false, List, length}
use Rattle.lists.specs.Front.{at}
use Rattle.lists.specs.Put.{put}
use Rattle.dataflow.specs.Counts.{sum}
use Rattle.dataflow.specs.Runs.{initially}
use Rattle.dataflow.specs.Lists.{FiringList, FedBy, fired_by, Prefix}
use Rattle.chain.specs.Chain.{net_of, delays_of}

-- how often each station is to fire, total in all
pub record Wanted (n : ℕ) (wanted : List ℕ) (total : ℕ) : Type 0 where
  pub adds : sum n (at wanted) ≡ total
  pub beyond : (v : ℕ) → n ≤ v → at wanted v ≡ 0
  pub few : total ≤ 65536

-- The firings that were made, each the lowest-numbered station that could fire, are stored in the first entries of the lent list. They are all that are wanted, or no station
-- that has firings left can fire. The times and the counts of the stations play no part.
pub record Fires (n m : ℕ) (source sink produced consumed delay wanted : List ℕ) (total : ℕ) (r : Bool) (before after : List ℕ) : Type 0 where
  pub made : List ℕ
  pub stored : after ≡ put before 0 made
  pub so_far : (time q : List ℕ) → Prefix (net_of n m source sink produced consumed time q) (delays_of m delay) (at wanted) made
  pub complete : r ≡ true → (time q : List ℕ) → FiringList (net_of n m source sink produced consumed time q) (at wanted) (initially (net_of n m source sink produced consumed time q) (delays_of m delay)) made
  pub fewer : r ≡ false → length made < total
  pub none_can : r ≡ false → (time q : List ℕ) (w : ℕ) → fired_by (net_of n m source sink produced consumed time q) (delays_of m delay) made w < at wanted w
      → ¬ FedBy (net_of n m source sink produced consumed time q) (delays_of m delay) (fired_by (net_of n m source sink produced consumed time q) (delays_of m delay) made) w
