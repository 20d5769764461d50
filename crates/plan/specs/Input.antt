-- The input of the program: it takes as many bytes as its list has room for, and plans the whole of it.
use Rattle.std.specs.Prelude.{ℕ, ◌≤◌, ◌<◌, ◌≡◌, List, length, take, Result}
use Rattle.refusals.specs.declared.refusal.Refusal.{Refusal}
use Rattle.planner.specs.declared.PlanNumbers.{PlanNumbers}
use Rattle.planner.specs.Plan.{Plans}
use Rattle.planner.specs.Lent.{PlansLent}

-- there was room for more bytes than a sheet has, and so many were taken
pub record RoomEnough (bytes : List ℕ) (count : ℕ) : Type 0 where
  pub enough : 788 < length bytes
  pub within : count ≤ length bytes

-- The bytes s, which were taken, are planned, and the answer is never 11; and so is every input whose first bytes, as many as there was room for, are s.
pub record PlansInput (room : ℕ) (s start round times : List ℕ) (r : Result PlanNumbers Refusal) (start' round' times' : List ℕ) : Type 0 where
  pub taken : PlansLent s start round times r start' round' times'
  pub whole : (input : List ℕ) → take room input ≡ s → Plans input start round times r start' round' times'
