-- A tree of queues over all stations, grown by the lowest queue that leads to one more. `place` has the places by station, `steps` the steps by place.
use Rattle.std.specs.Prelude.{ℕ, ◌≤◌, ◌<◌, ◌≡◌, List, ◌⊎◌}
use Rattle.lists.specs.Front.{at}
use Rattle.balance.specs.declared.way.Step.{Step}
use Rattle.balance.specs.declared.reaching.Seen.{Seen}
use Rattle.balance.specs.Way.{step}

-- queue k has v at its near end, and r is its far end with both rates
pub record SeenFrom (near_end far_end near_rate far_rate : List ℕ) (k v : ℕ) (r : Seen) : Type 0 where
  pub end : v ≡ at near_end k
  pub station : r.station ≡ at far_end k
  pub near : r.near ≡ at near_rate k
  pub far : r.far ≡ at far_rate k

-- queue k as the station v at one of its ends sees it
abbrev pub Sees : (source sink produced consumed : List ℕ) (k v : ℕ) (r : Seen) → Type 0
Sees source sink produced consumed k v r = SeenFrom source sink produced consumed k v r ⊎ SeenFrom sink source consumed produced k v r

-- the station at place i was reached by queue k, whose near end it is
pub record Hangs (near_end far_end near_rate far_rate : List ℕ) (place : List ℕ) (steps : List Step) (k i : ℕ) : Type 0 where
  pub own : at place (at near_end k) ≡ i
  pub up : at place (at far_end k) ≡ (step steps i).up
  pub near : (step steps i).near ≡ at near_rate k
  pub far : (step steps i).far ≡ at far_rate k

-- where u has a place below i, v has one too
abbrev pub Follows : (place : List ℕ) (i u v : ℕ) → Type 0
Follows place i u v = at place u < i → at place v < i

-- the station at place i was reached by queue k, and no queue below k led from the stations before it to others
pub record Reached (source sink produced consumed : List ℕ) (place : List ℕ) (steps : List Step) (k i : ℕ) : Type 0 where
  pub hangs : Hangs source sink produced consumed place steps k i ⊎ Hangs sink source consumed produced place steps k i
  pub along : (f : ℕ) → f < k → Follows place i (at source f) (at sink f)
  pub against : (f : ℕ) → f < k → Follows place i (at sink f) (at source f)

-- each station has a place, and each but the first was reached by a queue; `who` and `by` are the station and the queue by place
pub record Grown (n : ℕ) (source sink produced consumed : List ℕ) (place : List ℕ) (steps : List Step) : Type 0 where
  pub who : ℕ → ℕ
  pub by : ℕ → ℕ
  pub stations : (i : ℕ) → who i < n
  pub places : (v : ℕ) → v < n → at place v < n
  pub back : (v : ℕ) → v < n → who (at place v) ≡ v
  pub reached : (i : ℕ) → 1 ≤ i → i < n → Reached source sink produced consumed place steps (by i) i
