-- The first number that a search over a range finds is the lowest that fails.
use Rattle.std.proofs.Common.{ℕ, ◌≤◌, ◌<◌, Option, Some, None, arith}
use Rattle.std.specs.Option.{MatchOption}
use Rattle.lists.specs.Lowest.{FirstFailing}
use Rattle.lists.proofs.LowestLaws.{found, found_none}

pub first_failing : {P : ℕ → Type 0} {m : ℕ} (r : Option ℕ) → MatchOption r ((k : ℕ) → 0 ≤ k → k < m → P k) (λ e. (0 ≤ e) × (e < m) × (P e → ⊥) × ((k : ℕ) → 0 ≤ k → k < e → P k)) → FirstFailing P m r
first_failing None h = found_none (λ k b. h k (omega arith) b)
first_failing (Some e) h = found e h.1 (λ k b. h.3 k (omega arith) b) h.2
