-- The quotient that rounds up.
use Rattle.std.proofs.Common.{ℕ, ◌+◌, ◌/◌, ◌%◌, ◌≤◌, min, arith}
use native.Mathlib.Nat.{lt_of_mul-lt-mul_right}
use Rattle.std.proofs.lemmas.Grind.{div_ceil_times}
use Rattle.chain.specs.Ceiling.{Ceiling}

pub ceiling_is : (tokens rate : ℕ) → 1 ≤ rate → Ceiling tokens rate (tokens / rate + min 1 (tokens % rate))
ceiling_is tokens rate h = let t = div_ceil_times tokens rate h in record {
  enough = t.0;
  least = λ x k.
      let below = lt_of_mul-lt-mul_right rate {m = tokens / rate + min 1 (tokens % rate)} {n = x + 1} (omega (arith, t.1)) in
      omega arith;
}
