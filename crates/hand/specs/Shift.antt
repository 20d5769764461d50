-- New delays by sums of natural numbers.
use Rattle.std.specs.Prelude.{ℕ, ◌+◌, ◌*◌, ◌≤◌, ◌≡◌, List, [], ℤ, pos}
use Rattle.lists.specs.Front.{at}
use Rattle.dataflow.specs.Whole.{up, down}
use Rattle.dataflow.specs.Refusals.{InHandRange}
use Rattle.dataflow.specs.Retiming.{by_hand, new_delay}
use Rattle.sheet.specs.declared.Sheet.{Sheet}
use Rattle.checks.specs.Check.{net_for, delays_for}

-- what a retiming adds to a queue's delay, with the delay, and what it takes away
abbrev pub gain : (delay consumed : ℕ) (sink : ℤ) (produced : ℕ) (source : ℤ) → ℕ
gain delay consumed sink produced source = delay + consumed * up sink + produced * down source

abbrev pub loss : (consumed : ℕ) (sink : ℤ) (produced : ℕ) (source : ℤ) → ℕ
loss consumed sink produced source = consumed * down sink + produced * up source

-- numbers that these sums are made of
pub record Small (delay consumed : ℕ) (sink : ℤ) (produced : ℕ) (source : ℤ) : Type 0 where
  pub held : delay ≤ 4095
  pub takes : consumed ≤ 64
  pub makes : produced ≤ 64
  pub sink_range : InHandRange sink
  pub source_range : InHandRange source

-- the delays that the hand list l gives the sheet f, and 0 beyond the last queue; the counts play no part
pub record NewDelays (f : Sheet) (l : List ℤ) (new : List ℕ) : Type 0 where
  pub is : (e : (net_for f []).Queue) → new_delay (net_for f []) (delays_for f []) (by_hand l) e ≡ pos (at new e.0)
  pub rest : (e : ℕ) → f.m ≤ e → at new e ≡ 0
