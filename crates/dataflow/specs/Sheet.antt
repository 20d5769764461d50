-- A sheet by columns, its net, and a plan by lists.
use Rattle.std.specs.Prelude.{List, [], ◌∷◌, map, ℕ, zero, suc, ◌<◌}
use Rattle.std.proofs.Common.{arith}
use Rattle.lists.specs.Front.{at}
use Rattle.dataflow.specs.Net.{Net}
use Rattle.dataflow.specs.Times.{entry}
use Rattle.dataflow.specs.Promise.{Plan}

-- A sheet's numbers by columns: an entry for each station, and one for each queue. Entries beyond the last play no part.
pub record Sheet : Type 0 where
  pub stations : ℕ
  pub queues : ℕ
  pub time : List ℕ
  pub source : List ℕ
  pub sink : List ℕ
  pub produced : List ℕ
  pub consumed : List ℕ
  pub delay : List ℕ
  pub target : ℕ

-- the numbers below m, with the proof that they are
abbrev pub Below : ℕ → Type 0
Below m = (e : ℕ) × (e < m)

abbrev pub raise : {m : ℕ} → Below m → Below (suc m)
raise e = (suc e.0, omega (arith, e.1))

abbrev pub below : (m : ℕ) → List (Below m)
below zero = []
below (suc m) = (0, omega arith) ∷ map raise (below m)

-- The net of a sheet with the counts q: queue e is number e of the sheet's, and a step costs nothing.
abbrev pub net : (s : Sheet) (q : List ℕ) → Net
net s q = record {
  stations = s.stations;
  Queue = Below s.queues;
  queues = below s.queues;
  source = λ e. at s.source e.0;
  sink = λ e. at s.sink e.0;
  produced = λ e. at s.produced e.0;
  consumed = λ e. at s.consumed e.0;
  cost = λ e. 0;
  time = at s.time;
  q = at q;
}

abbrev pub delays : (s : Sheet) (q : List ℕ) → (net s q).Queue → ℕ
delays s q e = at s.delay e.0

-- A plan by lists; the time table stands station by station, copy by copy.
abbrev pub plan_of : (s : Sheet) (q : List ℕ) (period rounds back : ℕ) (retiming delay room start round table : List ℕ) → Plan (net s q)
plan_of s q period rounds back retiming delay room start round table = record {
  period = period;
  rounds = rounds;
  back = back;
  retiming = at retiming;
  delay = λ e. at delay e.0;
  room = λ e. at room e.0;
  start = start;
  round = round;
  times = entry (at q) table;
}
