-- Whether the stations are joined. Those that are joined to station 0 are marked.
use Rattle.std.specs.Prelude.{ℕ, ◌≤◌, ◌<◌, ◌≡◌, Bool, true, false, List, [], ◌⊎◌, Option, get_or, IfSome, option_map}
use Rattle.lists.specs.Front.{at}
use Rattle.lists.specs.Lowest.{FirstFailing}
use Rattle.dataflow.specs.Net.{Net}
use Rattle.dataflow.specs.Refusals.{Joined}
use Rattle.chain.specs.Chain.{net_of}
use Rattle.counts.specs.declared.Crossing.{Crossing}

-- n and m are within limits, and each queue joins two stations
pub record Ends (n m : ℕ) (source sink : List ℕ) : Type 0 where
  pub some : 1 ≤ n
  pub few : n ≤ 32
  pub few_queues : m ≤ 64
  pub leaves : (e : ℕ) → e < m → at source e < n
  pub enters : (e : ℕ) → e < m → at sink e < n

-- the net of these queues, in which nothing but their ends plays a part
abbrev pub ends_of : (n m : ℕ) (source sink : List ℕ) → Net
ends_of n m source sink = net_of n m source sink [] [] [] []

-- any two stations are joined, directions ignored
abbrev pub AllJoined : (n m : ℕ) (source sink : List ℕ) → Type 0
AllJoined n m source sink = (u v : ℕ) → u < n → v < n → Joined (ends_of n m source sink) u v

-- whether v is marked
abbrev pub mark : (marked : List Bool) (v : ℕ) → Bool
mark marked v = get_or marked v false

-- both ends of queue e are marked, or neither is
abbrev pub OneSide : (source sink : List ℕ) (marked : List Bool) (e : ℕ) → Type 0
OneSide source sink marked e = mark marked (at source e) ≡ mark marked (at sink e)

-- queue e has a marked station at its far end, and v at its near one
pub record Beside (near far : List ℕ) (marked : List Bool) (v e : ℕ) : Type 0 where
  pub end : v ≡ at near e
  pub known : mark marked (at far e) ≡ true

-- the station of this crossing has no mark, and is at one end of its queue, whose other end has one
pub record Leads (source sink : List ℕ) (marked : List Bool) (c : Crossing) : Type 0 where
  pub new : mark marked c.station ≡ false
  pub beside : Beside source sink marked c.station c.queue ⊎ Beside sink source marked c.station c.queue

-- the lowest of m queues with just one marked end, and the station at its other end, if there is one
pub record Crosses (m : ℕ) (source sink : List ℕ) (marked : List Bool) (r : Option Crossing) : Type 0 where
  pub lowest : FirstFailing (OneSide source sink marked) m (option_map (λ c. c.queue) r)
  pub leads : IfSome r (Leads source sink marked)
