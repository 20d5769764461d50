-- Sheets that the facts are about.
use Rattle.std.specs.Prelude.{List, [], ◌∷◌, map, ℕ, length}
use Rattle.dataflow.specs.Sheet.{Sheet}

-- A queue of a sheet that is written queue by queue.
pub record Queue : Type 0 where
  pub source : ℕ
  pub sink : ℕ
  pub produced : ℕ
  pub consumed : ℕ
  pub delay : ℕ

abbrev pub queue : (source sink produced consumed delay : ℕ) → Queue
queue source sink produced consumed delay = record { source = source; sink = sink; produced = produced; consumed = consumed; delay = delay }

abbrev pub sheet : (times : List ℕ) (queues : List Queue) (target : ℕ) → Sheet
sheet times queues target = record {
  stations = length times;
  queues = length queues;
  time = times;
  source = map (λ e. e.source) queues;
  sink = map (λ e. e.sink) queues;
  produced = map (λ e. e.produced) queues;
  consumed = map (λ e. e.consumed) queues;
  delay = map (λ e. e.delay) queues;
  target = target;
}

-- The worked example: K(d,T).
abbrev pub K : (d T : ℕ) → Sheet
K d T = sheet (3 ∷ 2 ∷ []) (queue 0 1 1 2 0 ∷ queue 1 0 2 1 d ∷ []) T

-- The spectrum analyser of source document 004, Fig. 1: stations A to F.
abbrev pub analyser : Sheet
analyser = sheet (1 ∷ 1 ∷ 2 ∷ 1 ∷ 1 ∷ 2 ∷ [])
    (queue 0 1 1 16 0 ∷ queue 1 2 1 1 0 ∷ queue 2 3 1 1 1 ∷ queue 3 4 4 1 0 ∷ queue 4 0 4 1 16 ∷ queue 3 5 1 1 1 ∷ queue 5 1 1 1 0 ∷ []) 3

-- Source document 001, Fig. 1: stations A, B, C.
abbrev pub figure1 : Sheet
figure1 = sheet (10 ∷ 2 ∷ 2 ∷ []) (queue 0 1 1 1 0 ∷ queue 1 2 1 1 0 ∷ queue 2 1 1 1 2 ∷ queue 2 0 1 1 4 ∷ []) 10

-- One station of this time, with these queues.
abbrev pub lone : (time : ℕ) (queues : List Queue) (T : ℕ) → Sheet
lone time queues T = sheet (time ∷ []) queues T

-- Station 0 takes from the quick station 2 and waits for the slow station 1.
abbrev pub held_up : Sheet
held_up = sheet (1 ∷ 5 ∷ 1 ∷ []) (queue 2 0 1 1 0 ∷ queue 1 0 2 1 0 ∷ []) 6
