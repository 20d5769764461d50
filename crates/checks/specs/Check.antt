-- Checks 1 to 8 with 16, and what they work out of a sheet.
use Rattle.std.specs.Prelude.{ℕ, ◌≤◌, ◌≡◌, List, [], ◌∷◌, ◌++◌, length, take, Result}
use Rattle.lists.specs.Front.{at}
use Rattle.refusals.specs.declared.refusal.Refusal.{Refusal}
use Rattle.refusals.specs.Table.{stuck}
use Rattle.refusals.specs.Table as table
use Rattle.refusals.specs.First.{Row, row}
use Rattle.refusals.specs.Refused.{Answered}
use Rattle.dataflow.specs.Net.{Net}
use Rattle.dataflow.specs.Counts.{Counts}
use Rattle.dataflow.specs.Lists.{RoundList}
use Rattle.dataflow.specs.Refusals.{apart_row, unbalanced_row, counts_row}
use Rattle.dataflow.specs.Sheet as columns
use Rattle.dataflow.specs.Stuck.{Stuck}
use Rattle.sheet.specs.declared.Sheet.{Sheet}
use Rattle.sheet.specs.Format.{sheet_of}
use Rattle.sheet.specs.Read.{read_rows}
use Rattle.chain.specs.declared.chain.Chain.{Chain}
use Rattle.chain.specs.declared.round.Round.{Round}
use Rattle.chain.specs.Chain.{ChainFits, DelaysGiven}
use Rattle.chain.specs.Made.{HasColumns}
use Rattle.checks.specs.declared.Checked.{Checked}

-- a sheet that was read, as the dataflow definitions take it
abbrev pub columns_of : Sheet → columns.Sheet
columns_of f = record {
  stations = f.n;
  queues = f.m;
  time = f.time;
  source = f.source;
  sink = f.sink;
  produced = f.produced;
  consumed = f.consumed;
  delay = f.delay;
  target = f.target;
}

abbrev pub net_for : (f : Sheet) (q : List ℕ) → Net
net_for f q = columns.net (columns_of f) q

abbrev pub delays_for : (f : Sheet) (q : List ℕ) → (net_for f q).Queue → ℕ
delays_for f q = columns.delays (columns_of f) q

-- q are the sheet's counts, one for each of at most 32 stations and 0 beyond the last
pub record CountsOf (f : Sheet) (q : List ℕ) : Type 0 where
  pub entries : length q ≡ 32
  pub counts : Counts (net_for f q) (at q)
  pub beyond : (v : ℕ) → f.n ≤ v → at q v ≡ 0

-- a row that speaks of the counts: it applies where the sheet has counts and P holds of them
abbrev pub counted_row : (f : Sheet) → table.Refusal → (P : List ℕ → Type 0) → Row
counted_row f refusal P = row refusal ((q : List ℕ) × CountsOf f q × P q)

-- 8
abbrev pub stuck_row : Sheet → Row
stuck_row f = counted_row f stuck (λ q. Stuck (net_for f q) (delays_for f q))

-- 6, 16, 7 and 8; in the first three the counts play no part
abbrev pub chain_rows : Sheet → List Row
chain_rows f = apart_row (net_for f []) ∷ unbalanced_row (net_for f []) ∷ counts_row (net_for f []) ∷ stuck_row f ∷ []

abbrev pub check_rows : List ℕ → List Row
check_rows s = read_rows s ++ chain_rows (sheet_of s)

-- a sheet of edition 1 within limits, as one that was read is
pub record Fits (f : Sheet) : Type 0 where
  pub version : f.version ≡ 1
  pub chain : ChainFits f.n f.m f.source f.sink f.produced f.consumed
  pub given : DelaysGiven f.m f.delay

-- the columns of a chain are those of the sheet f
abbrev pub ChainOf : (f : Sheet) (c : Chain) → Type 0
ChainOf f c = HasColumns c f.n f.m f.source f.sink f.produced f.consumed

-- the chain and the counts of a round are those of the sheet f
pub record RoundOf (f : Sheet) (r : Round) : Type 0 where
  pub chain : ChainOf f r.chain
  pub counts : CountsOf f r.q

-- the sheet that was checked
abbrev pub sheet_in : Checked → Sheet
sheet_in c = record {
  version = 1;
  n = c.round.chain.n;
  m = c.round.chain.m;
  target = c.target;
  tag = c.tag;
  time = c.time;
  source = c.round.chain.source;
  sink = c.round.chain.sink;
  produced = c.round.chain.produced;
  consumed = c.round.chain.consumed;
  delay = c.delay;
}

-- what is worked out of a sheet f that no check refuses: its chain with threads through its queues, its counts and their sum, its delays, and its round list; such a sheet is within limits
pub record Ready (f : Sheet) (r : Checked) : Type 0 where
  pub given : DelaysGiven f.m f.delay
  pub sheet : sheet_in r ≡ f
  pub counts : CountsOf f r.round.q
  pub round : RoundList (net_for f r.round.q) (delays_for f r.round.q) (take r.round.total r.list)
  pub rest : (k : ℕ) → r.round.total ≤ k → at r.list k ≡ 0

-- the first of the rows that applies, or what is worked out of f
abbrev pub Judges : (rows : List Row) (f : Sheet) → Result Checked Refusal → Type 0
Judges rows f = Answered rows (Ready f)

-- checks 1 to 8 with 16 of a sheet's bytes
abbrev pub Checks : (s : List ℕ) → Result Checked Refusal → Type 0
Checks s = Judges (check_rows s) (sheet_of s)
