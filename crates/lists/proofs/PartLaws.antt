-- The laws of a part of a list.
use Prim.Native.Nat.{ℕ, zero, suc, ◌+◌, ◌*◌, ◌≤◌}
use mathlib.Core.Path.{◌≡◌, refl}
use mathlib.Core.List.{List, [], ◌∷◌, ◌++◌}
use native.Mathlib.Nat.{mul-zero, mul-suc}
use native.Mathlib.Numerals.{add-one}
use native.Mathlib.Omega.{arith}
use lib.ListN.{length}
use lib.Seq.{take-add, drop-drop, drop-cons, take_all}
use Rattle.lists.specs.Front.{at}
use Rattle.lists.specs.Part.{part}
use Rattle.lists.specs.Joined.{joined}

-- two parts, one behind the other
pub part_join : (l : List ℕ) (i a b : ℕ) {place : ℕ} → place ≡ i + a → part l i a ++ part l place b ≡ part l i (a + b)
unfolding part
part_join l i a b e = rw (e, ← drop-drop, ← take-add)

pub part_two : (l : List ℕ) (i : ℕ) → i + 2 ≤ length l → part l i 2 ≡ at l i ∷ at l (i + 1) ∷ []
unfolding part
part_two l i h = rw (drop-cons l i 0 (omega arith), drop-cons l (suc i) 0 (omega arith), add-one)

pub part_all : (l : List ℕ) (n : ℕ) → length l ≡ n → part l 0 n ≡ l
unfolding part
part_all l n e = take_all n l (omega arith)

part_none : (l : List ℕ) (i : ℕ) → [] ≡ part l i 0
unfolding part
part_none l i = refl

-- parts of one length, end to end
pub part_joined : (l : List ℕ) (i size n : ℕ) → joined n (λ k. part l (i + size * k) size) ≡ part l i (size * n)
unfolding joined
part_joined l i size zero = rw mul-zero (part_none l i)
part_joined l i size (suc n) = rw (part_joined l i size n, mul-suc) (part_join l i (size * n) size refl)
