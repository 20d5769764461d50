-- What is known of a plan on the way to it.
use Rattle.std.specs.Prelude.{ℕ, ◌≤◌, ◌≡◌, List, length}
use Rattle.lists.specs.Front.{at, front}
use Rattle.dataflow.specs.Counts.{sum}
use Rattle.checks.specs.declared.Checked.{Checked}
use Rattle.checks.specs.Check.{Ready, sheet_in}
use Rattle.search.specs.declared.Found.{Found}
use Rattle.search.specs.Found.{Retimes}
use Rattle.retimed.specs.Back.{BackOf, StartFirings}
use Rattle.rooms.specs.Rooms.{BothListed, RoomsOf}
use Rattle.planner.specs.declared.PlanNumbers.{PlanNumbers}
use Rattle.planner.specs.Lists.{Written}

-- no check refuses the sheet, and these are its retiming and what comes with it
pub record Retimed (c : Checked) (r : Found) : Type 0 where
  pub ready : Ready (sheet_in c) c
  pub retimes : Retimes c.round.chain.n c.round.chain.m c.round.chain.source c.round.chain.sink c.round.chain.produced c.round.chain.consumed c.delay c.time c.round.q c.round.total c.target r

-- back, the firings of the start list and their sum
pub record Begun (c : Checked) (r : Found) (back : ℕ) (firings : List ℕ) (starts : ℕ) : Type 0 where
  pub retimed : Retimed c r
  pub backs : BackOf c.round.chain.n c.round.q r.retiming back
  pub fires : StartFirings c.round.chain.n c.round.q r.retiming back firings
  pub adds : starts ≡ sum c.round.chain.n (at firings)

-- no lent buffer is shorter than needed
pub record HasRoom (c : Checked) (starts : ℕ) (start round times : List ℕ) : Type 0 where
  pub start_room : starts ≤ length start
  pub round_room : c.round.total ≤ length round
  pub times_room : c.round.total ≤ length times

-- both lists and the time table stand in the buffers
pub record Wrote (c : Checked) (r : Found) (firings start round times start' round' times' : List ℕ) : Type 0 where
  pub start_list : Written c.round.chain.n c.round.chain.m c.round.chain.source c.round.chain.sink c.round.chain.produced c.round.chain.consumed c.delay firings start start'
  pub round_list : Written c.round.chain.n c.round.chain.m c.round.chain.source c.round.chain.sink c.round.chain.produced c.round.chain.consumed r.delay c.round.q round round'
  pub time_table : times' ≡ front c.round.total (at r.table) times

-- both lists, as they stand in the buffers
abbrev pub Stand : (c : Checked) (r : Found) (start round : List ℕ) → Type 0
Stand c r start round = BothListed c.round.chain.n c.round.chain.m c.round.chain.source c.round.chain.sink c.round.chain.produced c.round.chain.consumed c.delay r.delay (length start) (length round) start round

-- the rooms that the queues need for them
abbrev pub Roomed : (c : Checked) (start round room : List ℕ) → Type 0
Roomed c start round = RoomsOf c.round.chain.n c.round.chain.m c.round.chain.source c.round.chain.sink c.round.chain.produced c.round.chain.consumed c.delay (length start) (length round) start round

-- the plan's numbers
abbrev pub numbers_of : (c : Checked) (r : Found) (back : ℕ) (firings : List ℕ) (starts : ℕ) (room : List ℕ) → PlanNumbers
numbers_of c r back firings starts room = record {
  n = c.round.chain.n;
  m = c.round.chain.m;
  period = r.period;
  rounds = r.rounds;
  back = back;
  starts = starts;
  total = c.round.total;
  tag = c.tag;
  q = c.round.q;
  retiming = r.retiming;
  start = firings;
  delay = r.delay;
  room = room;
}
