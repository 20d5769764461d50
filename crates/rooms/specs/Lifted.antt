-- Rooms, lifted while a list is fired.
use Rattle.std.specs.Prelude.{ℕ, ◌+◌, ◌*◌, ◌≤◌, ◌<◌, ◌^◌, max, ◌≡◌, List, length, take}
use Rattle.lists.specs.Front.{at}
use Rattle.dataflow.specs.Runs.{initially, Run}
use Rattle.dataflow.specs.Peak.{Peak}
use Rattle.chain.specs.Chain.{net_of, delays_of}

-- Each entry at one of the places becomes the larger of what it was and an x with P of its place and x; the others stay.
pub record Lifted (Place : ℕ → Type 0) (P : (place x : ℕ) → Type 0) (before after : List ℕ) : Type 0 where
  pub long : length after ≡ length before
  pub is : (e : ℕ) → Place e → (x : ℕ) × P e x × (at after e ≡ max (at before e) x)
  pub rest : (e : ℕ) → ¬ Place e → at after e ≡ at before e

-- the queues out of v
abbrev pub OutOf : (m : ℕ) (source : List ℕ) (v e : ℕ) → Type 0
OutOf m source v e = (e < m) × (at source e ≡ v)

-- queue e holds x tokens after these firings
abbrev pub HoldsBy : (source sink produced consumed delay fired : List ℕ) (e x : ℕ) → Type 0
HoldsBy source sink produced consumed delay fired e x = at fired (at sink e) * at consumed e + x ≡ at delay e + at fired (at source e) * at produced e

-- what these firings took had been put, or was there before
abbrev pub AllPut : (m : ℕ) (source sink produced consumed delay fired : List ℕ) → Type 0
AllPut m source sink produced consumed delay fired = (e : ℕ) → e < m → at fired (at sink e) * at consumed e ≤ at delay e + at fired (at source e) * at produced e

-- each room covers its queue's delay
abbrev pub Covered : (m : ℕ) (delay room : List ℕ) → Type 0
Covered m delay room = (e : ℕ) → e < m → at delay e ≤ at room e

-- r is the place behind the entries from `from` on, before count, that are the same
pub record StretchEnds (list : List ℕ) (count from r : ℕ) : Type 0 where
  pub some : from < r
  pub within : r ≤ count
  pub same : (k : ℕ) → from ≤ k → k < r → at list k ≡ at list from
  pub ends : r < count → ¬ (at list r ≡ at list from)

-- The first entries of the list can be fired from these delays. The times and the counts of the stations play no part.
pub record Listed (n m : ℕ) (source sink produced consumed delay : List ℕ) (count : ℕ) (list : List ℕ) : Type 0 where
  pub long : count ≤ length list
  pub few : count ≤ 65536
  pub delays : (e : ℕ) → at delay e < 2 ^ 30
  pub run : (time q : List ℕ) → Run (net_of n m source sink produced consumed time q) (initially (net_of n m source sink produced consumed time q) (delays_of m delay)) (take count list)

-- x is the most tokens that queue e holds, at the start or after any of these firings
abbrev pub Peaks : (n m : ℕ) (source sink produced consumed delay : List ℕ) (count : ℕ) (list : List ℕ) (e x : ℕ) → Type 0
Peaks n m source sink produced consumed delay count list e x =
    (h : e < m) (time q : List ℕ) → Peak (net_of n m source sink produced consumed time q) (initially (net_of n m source sink produced consumed time q) (delays_of m delay)) (take count list) (e, h) x
