-- When the planner says no: the rows of the table that speak of nets, 6 to 9 and 12 to 16.
use Rattle.std.specs.Prelude.{◌≡◌, List, ℕ, ◌*◌, ◌≤◌, ◌<◌, length, ℤ, nat_abs}
use Rattle.std.proofs.Math.Option.{some}
use Rattle.std.proofs.Math.ListN.{get_elem?}
use Rattle.refusals.specs.Table.{apart, unbalanced, counts_fail, stuck, no_retiming, hand, negative, slow, token}
use Rattle.refusals.specs.First.{Row, row}
use Rattle.dataflow.specs.Net.{Net, Balances}
use Rattle.dataflow.specs.Counts.{sum}
use Rattle.dataflow.specs.Copies.{Copy}
use Rattle.dataflow.specs.Paths.{Period}
use Rattle.dataflow.specs.Stuck.{Stuck}
use Rattle.dataflow.specs.Retiming.{NotNegative, new_delay, Serves, by_hand}

-- from -65,535 to 65,535
abbrev pub InHandRange : ℤ → Type 0
InHandRange r = nat_abs r ≤ 65535

module _ (G : Net) where
  -- A chain of queues, directions ignored, joins two stations.
  pub data Joined : ℕ → ℕ → Type 0 where
    here : {u : ℕ} → Joined u u
    along : {u : ℕ} (e : G.Queue) → Joined u (G.source e) → Joined u (G.sink e)
    against : {u : ℕ} (e : G.Queue) → Joined u (G.sink e) → Joined u (G.source e)

  -- 6: stations not joined.
  abbrev pub apart_row : Row
  apart_row = row apart (¬ ((u v : ℕ) → u < G.stations → v < G.stations → Joined u v))

  -- Queue e has this number, from 0.
  abbrev pub HasNumber : G.Queue → ℕ → Type 0
  HasNumber e place = get_elem? G.queues place ≡ some e

  -- x is positive and balances queues 0 to `last`. Stations that these queues don't join are free of each other.
  pub record BalancesTo (last : ℕ) (x : ℕ → ℕ) : Type 0 where
    pub positive : (v : ℕ) → v < G.stations → 1 ≤ x v
    pub balanced : (e : G.Queue) (place : ℕ) → HasNumber e place → place ≤ last → x (G.source e) * G.produced e ≡ x (G.sink e) * G.consumed e

  -- 16: no vector of any size balances queues 0 to the one of this number.
  abbrev pub unbalanced_row : Row
  unbalanced_row = record { refusal = unbalanced; applies = λ place. (e : G.Queue) × HasNumber e place × ((x : ℕ → ℕ) → ¬ BalancesTo place x) }

  -- 7: no positive vector with sum at most 256 balances every queue.
  abbrev pub counts_row : Row
  counts_row = row counts_fail ((x : ℕ → ℕ) → Balances G x → ¬ (sum G.stations x ≤ 256))

  -- 8: the copies have a loop of delay 0.
  abbrev pub stuck_row : (d : G.Queue → ℕ) → Row
  stuck_row d = row stuck (Stuck G d)

  -- 9: no whole numbers serve.
  abbrev pub retiming_row : (d : G.Queue → ℕ) (T : ℕ) → Row
  retiming_row d T = row no_retiming ((r : ℕ → ℤ) → ¬ Serves G d T r)

  -- A hand list has exactly an entry for each station, each in range.
  pub record HandFits (l : List ℤ) : Type 0 where
    pub one_each : length l ≡ G.stations
    pub in_range : (v : ℕ) → InHandRange (by_hand l v)

  -- 12: it hasn't.
  abbrev pub hand_row : List ℤ → Row
  hand_row l = row hand (¬ HandFits l)

  -- A move is asked for a station, one of its copies, and a number in range.
  pub record MoveFits (v i : ℕ) (r : ℤ) : Type 0 where
    pub station : v < G.stations
    pub copy : Copy G v i
    pub in_range : InHandRange r

  -- 12, for one move: it isn't.
  abbrev pub move_row : (v i : ℕ) (r : ℤ) → Row
  move_row v i r = row hand (¬ MoveFits v i r)

  -- 13: a new delay below 0, at the queue of this number.
  abbrev pub negative_row : (d : G.Queue → ℕ) (r : ℕ → ℤ) → Row
  negative_row d r = record { refusal = negative; applies = λ place. (e : G.Queue) × HasNumber e place × (¬ NotNegative (new_delay G d r e)) }

  -- 14: the period of the delays D is above the target.
  abbrev pub slow_row : (D : G.Queue → ℕ) (T : ℕ) → Row
  slow_row D T = row slow ((P : ℕ) × Period G D P × (T < P))

  -- An origin is asked for a queue, a sink firing from 1 to 1,000,000 and a token from 1 to consumed.
  pub record TokenFits (place g k : ℕ) : Type 0 where
    pub queue : G.Queue
    pub is : HasNumber queue place
    pub firing_low : 1 ≤ g
    pub firing_high : g ≤ 1000000
    pub token_low : 1 ≤ k
    pub token_high : k ≤ G.consumed queue

  -- 15: no such queue, firing or token.
  abbrev pub token_row : (place g k : ℕ) → Row
  token_row place g k = row token (¬ TokenFits place g k)
