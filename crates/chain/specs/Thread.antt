-- The queues at a station, threaded. For each queue `ends` has the station at one of its ends: by its sink the queues into a station are threaded, by its source those out of it.
use Rattle.std.specs.Prelude.{ℕ, suc, ◌≤◌, ◌<◌, ◌≡◌, List}
use Rattle.lists.specs.Front.{at}

-- r is the lowest of the queues from `from` on that ends at v, or m
pub record FirstAt (m : ℕ) (ends : List ℕ) (v from r : ℕ) : Type 0 where
  pub ahead : from ≤ r
  pub within : r ≤ m
  pub passed : (e : ℕ) → from ≤ e → e < r → at ends e ≡ v → ⊥
  pub goes : r < m → at ends r ≡ v

-- a thread through the queues that end at each station, and m where there is no station or no queue
pub record Threads (n m : ℕ) (ends head next : List ℕ) : Type 0 where
  pub first : (v : ℕ) → v < n → FirstAt m ends v 0 (at head v)
  pub more : (e : ℕ) → e < m → FirstAt m ends (at ends e) (suc e) (at next e)
  pub no_station : (v : ℕ) → n ≤ v → v < 32 → at head v ≡ m
  pub no_queue : (e : ℕ) → m ≤ e → e < 64 → at next e ≡ m
