-- A net: stations, and queues between them.
use Rattle.std.specs.Prelude.{◌≡◌, ℕ, ◌*◌, ◌≤◌, ◌<◌}
use mathlib.Core.List.{List, Memᴰ}

-- Stations are the numbers below `stations`. Queues are of any type, and a list names them all; their delays stand apart, since a retiming changes nothing else.
-- q are the counts. A path pays `cost` for a step along a queue inside a round: 0 in this edition.
pub record Net : Type 1 where
  pub stations : ℕ
  pub Queue : Type 0
  pub queues : List Queue
  pub source : Queue → ℕ
  pub sink : Queue → ℕ
  pub produced : Queue → ℕ
  pub consumed : Queue → ℕ
  pub cost : Queue → ℕ
  pub time : ℕ → ℕ
  pub q : ℕ → ℕ

-- x is a vector of positive whole numbers with x(source) × produced = x(sink) × consumed on each queue.
pub record Balances (G : Net) (x : ℕ → ℕ) : Type 0 where
  pub positive : (v : ℕ) → v < G.stations → 1 ≤ x v
  pub balanced : (e : G.Queue) → x (G.source e) * G.produced e ≡ x (G.sink e) * G.consumed e

-- What every law asks of a net: rates of at least 1, queues that are named and join stations, and counts that balance, 0 beyond the last station.
pub record Sound (G : Net) : Type 0 where
  pub makes : (e : G.Queue) → 1 ≤ G.produced e
  pub takes : (e : G.Queue) → 1 ≤ G.consumed e
  pub named : (e : G.Queue) → Memᴰ e G.queues
  pub leaves : (e : G.Queue) → G.source e < G.stations
  pub enters : (e : G.Queue) → G.sink e < G.stations
  pub counts : Balances G G.q
  pub beyond : (v : ℕ) → G.stations ≤ v → G.q v ≡ 0
