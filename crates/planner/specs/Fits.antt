-- What an accepted plan tells of the sizes of its lists.
use Rattle.std.specs.Prelude.{ℕ, ◌≤◌, List, length}
use Rattle.planner.specs.declared.PlanNumbers.{PlanNumbers}

-- stations and queues are within limits, and every needed entry is in its buffer
pub record Fits (r : PlanNumbers) (start round times : List ℕ) : Type 0 where
  pub stations : r.n ≤ 32
  pub queues : r.m ≤ 64
  pub start_entries : r.starts ≤ length start
  pub round_entries : r.total ≤ length round
  pub times_entries : r.total ≤ length times
