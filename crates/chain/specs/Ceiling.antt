-- Division that rounds up.
use Rattle.std.specs.Prelude.{ℕ, ◌*◌, ◌≤◌}

-- r is the least number of firings that move so many tokens at this rate, or of rounds that make so many firings at this count
pub record Ceiling (tokens rate r : ℕ) : Type 0 where
  pub enough : tokens ≤ r * rate
  pub least : (x : ℕ) → tokens ≤ x * rate → r ≤ x
