-- Counts, rates and tokens on one queue.
use Prim.Native.Nat.{ℕ, ◌*◌, ◌<◌}
use mathlib.Core.Path.{◌≡◌}
use mathlib.Core.List.{List}
use native.Mathlib.Nat.{mul-le-mul_right, lt_of_mul-lt-mul_right}
use native.Mathlib.Omega.{arith}
use Rattle.lists.specs.Front.{at}
use Rattle.chain.specs.Ceiling.{Ceiling}
use Rattle.counts.specs.Raising.{Raises}

module _ {source sink produced consumed q : List ℕ} {e station count made taken : ℕ} where
  -- the source makes fewer tokens than the sink takes
  pub raise_source : made ≡ at q (at source e) * at produced e → taken ≡ at q (at sink e) * at consumed e → made < taken → station ≡ at source e → Ceiling taken (at produced e) count → Raises source sink produced consumed q e station count
  raise_source a b short s C =
      record {
        end = λ n h k. omega arith;
        more = rw s (lt_of_mul-lt-mul_right (at produced e) (omega (arith, C.enough)));
        asked = λ x h k l. rw s (C.least (x (at source e)) (omega (arith, mul-le-mul_right (at consumed e) l)));
      }
