-- A chain of stations as the planner's routines are lent it: n stations, m queues, and a column for each field.
use Rattle.std.specs.Prelude.{ℕ, ◌*◌, ◌≤◌, ◌<◌, ◌≡◌, List, []}
use Rattle.lists.specs.Front.{at}
use Rattle.dataflow.specs.Net.{Net}
use Rattle.dataflow.specs.Counts.{sum}
use Rattle.dataflow.specs.Sheet.{Sheet, Below, net}

-- the sheet of these columns, in which no delay and no target plays a part
abbrev pub sheet_of : (n m : ℕ) (source sink produced consumed time : List ℕ) → Sheet
sheet_of n m source sink produced consumed time = record {
  stations = n;
  queues = m;
  time = time;
  source = source;
  sink = sink;
  produced = produced;
  consumed = consumed;
  delay = [];
  target = 0;
}

-- its net; a column or counts that play no part are []
abbrev pub net_of : (n m : ℕ) (source sink produced consumed time q : List ℕ) → Net
net_of n m source sink produced consumed time q = net (sheet_of n m source sink produced consumed time) q

-- a column of delays, by queues
abbrev pub delays_of : (m : ℕ) (delay : List ℕ) → Below m → ℕ
delays_of m delay e = at delay e.0

-- n and m are within limits, each queue joins two stations, and its rates are within limits
pub record ChainFits (n m : ℕ) (source sink produced consumed : List ℕ) : Type 0 where
  pub some : 1 ≤ n
  pub few : n ≤ 32
  pub few_queues : m ≤ 64
  pub leaves : (e : ℕ) → e < m → at source e < n
  pub enters : (e : ℕ) → e < m → at sink e < n
  pub makes : (e : ℕ) → e < m → 1 ≤ at produced e
  pub makes_most : (e : ℕ) → e < m → at produced e ≤ 64
  pub takes : (e : ℕ) → e < m → 1 ≤ at consumed e
  pub takes_most : (e : ℕ) → e < m → at consumed e ≤ 64

-- delays within limits, and 0 beyond the last queue
pub record DelaysGiven (m : ℕ) (delay : List ℕ) : Type 0 where
  pub most : (e : ℕ) → at delay e ≤ 4095
  pub rest : (e : ℕ) → m ≤ e → at delay e ≡ 0

-- a chain with counts that balance it, total in all
pub record CountedChain (n m : ℕ) (source sink produced consumed q : List ℕ) (total : ℕ) : Type 0 where
  pub chain : ChainFits n m source sink produced consumed
  pub positive : (v : ℕ) → v < n → 1 ≤ at q v
  pub beyond : (v : ℕ) → n ≤ v → at q v ≡ 0
  pub balanced : (e : ℕ) → e < m → at q (at source e) * at produced e ≡ at q (at sink e) * at consumed e
  pub adds : sum n (at q) ≡ total
  pub few : total ≤ 256
