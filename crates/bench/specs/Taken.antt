-- What is taken from the front of a question's body.
use Rattle.std.specs.Prelude.{ℕ, ◌+◌, ◌*◌, ◌/◌, ◌%◌, ◌^◌, ◌≤◌, ◌<◌, ◌≡◌, List, length, drop, Result, IfOk, IsErr, ℤ, pos, ◌-ℤ◌}
use Rattle.little.specs.Little.{u32le}

-- the number in the eight bytes at the front
abbrev pub u64le : List ℕ → ℕ
u64le s = u32le s 0 + 2 ^ 32 * u32le s 4

-- and the one of either sign in the four bytes there: the highest of their bits counts below 0
abbrev pub i32le : List ℕ → ℤ
i32le s = pos (u32le s 0 % 2 ^ 31) -ℤ pos (u32le s 0 / 2 ^ 31 * 2 ^ 31)

-- n bytes were taken from the front, and P holds of what they gave; or there are fewer, and nothing was taken
pub record Takes {T E : Type 0} (n : ℕ) (P : List ℕ → T → Type 0) (old new : List ℕ) (r : Result T E) : Type 0 where
  pub taken : IfOk r (λ x. (n ≤ length old) × ((new ≡ drop n old) × P old x))
  pub short : IsErr r → (length old < n) × (new ≡ old)
