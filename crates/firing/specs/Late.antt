-- What a time table tells: the latest finish of a last copy, which is the latest of all, and the copies of each station that finish late.
use Rattle.std.specs.Prelude.{ℕ, ◌+◌, ◌-◌, ◌≤◌, ◌<◌, ◌≡◌, List}
use Rattle.lists.specs.Front.{at}
use Rattle.lists.specs.Filled.{Filled}
use Rattle.dataflow.specs.Counts.{sum}
use Rattle.dataflow.specs.Search.{HowMany}
use Rattle.chain.specs.Bases.{Bases}

-- a table with a place for each copy, and starts that are small enough
pub record Readable (n : ℕ) (q base table : List ℕ) : Type 0 where
  pub some : 1 ≤ n
  pub few : n ≤ 32
  pub positive : (v : ℕ) → v < n → 1 ≤ at q v
  pub begins : Bases n q base
  pub fits : sum n (at q) ≤ 256
  pub starts : (k : ℕ) → at table k ≤ 16777216

-- when copy i finishes, of a station with this time whose copies stand in the table from this place on
abbrev pub end_of : (from time : ℕ) (table : List ℕ) (i : ℕ) → ℕ
end_of from time table i = at table (from + (i - 1)) + time

-- when the last copy of v finishes
abbrev pub last_end : (q time table : List ℕ) (v : ℕ) → ℕ
last_end q time table v = end_of (sum v (at q)) (at time v) table (at q v)

-- r is the latest of these finishes; a station's last copy is its latest, so it is the latest finish of the whole table
pub record LatestEnd (n : ℕ) (q time table : List ℕ) (r : ℕ) : Type 0 where
  pub above : (v : ℕ) → v < n → last_end q time table v ≤ r
  pub reached : (v : ℕ) × (v < n) × (r ≡ last_end q time table v)

-- k of the first `count` copies finish after the target
abbrev pub EndsAfter : (target from time count : ℕ) (table : List ℕ) (k : ℕ) → Type 0
EndsAfter target from time count table k = HowMany (λ i. target < end_of from time table i) count k

-- for each station the number of copies that finish after the target, and 0 beyond the last
abbrev pub LateCounts : (n : ℕ) (q time : List ℕ) (target : ℕ) (table late : List ℕ) → Type 0
LateCounts n q time target table late = Filled (λ v x. EndsAfter target (sum v (at q)) (at time v) (at q v) table x) n late
