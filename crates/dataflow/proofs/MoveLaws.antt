-- The move of a copy is the move of its number.
use mathlib.Core.Path.{◌≡◌, sym, ap}
use Prim.Native.Nat.{ℕ, zero, suc, ◌+◌, ◌-◌, ◌*◌, ◌≤◌, ◌<◌}
use native.Mathlib.Nat.{div-add-mod', mod-lt, lt_of_mul-lt-mul_right}
use native.Mathlib.Omega.{arith}
use lib.IntN.{ℤ, pos, negsuc, ◌+ℤ◌, ◌-ℤ◌}
use Rattle.dataflow.specs.Copies.{copy_of, round_of}
use Rattle.dataflow.specs.Move.{floor_div, floor_mod, moved_copy, moved_shift}
use Rattle.dataflow.specs.Whole.{up, down}
use Rattle.dataflow.proofs.WholeLaws.{same_number, sum_is}

-- z = q × f + m with 0 ≤ m < q
pub record Floor (z : ℤ) (q : ℕ) (f : ℤ) (m : ℕ) : Type 0 where
  pub small : m < q
  pub is : up z + q * down f ≡ down z + q * up f + m

pub floor_is : (z : ℤ) (q : ℕ) → 0 < q → Floor z q (floor_div z q) (floor_mod z q)
floor_is (pos n) q h = record { small = mod-lt n h; is = omega (arith, div-add-mod' n q) }
floor_is (negsuc n) q h = record { small = omega (arith, mod-lt n h); is = omega (arith, div-add-mod' n q, mod-lt n h) }

floor_le : (z : ℤ) (q : ℕ) (f f' : ℤ) (m m' : ℕ) → Floor z q f m → Floor z q f' m' → up f + down f' ≤ up f' + down f
floor_le z q f f' m m' a b =
    let w : (up f + down f') * q < suc (up f' + down f) * q = omega arith in
    let w' = lt_of_mul-lt-mul_right q w in
    omega arith

-- and there is no second
pub floor_once : (z : ℤ) (q : ℕ) (f f' : ℤ) (m m' : ℕ) → Floor z q f m → Floor z q f' m' → (f ≡ f') × (m ≡ m')
floor_once z q f f' m m' a b =
    let e : f ≡ f' = same_number f f' (omega (arith, floor_le z q f f' m m' a b, floor_le z q f' f m' m b a)) in
    (e, omega (arith, ap (λ (x : ℤ). q * up x) e, ap (λ (x : ℤ). q * down x) e))

-- i + r = q × shift + copy, and the copy is one of 1 to q
pub record Moved (q i : ℕ) (r : ℤ) (copy : ℕ) (shift : ℤ) : Type 0 where
  pub low : 1 ≤ copy
  pub high : copy ≤ q
  pub is : i + up r + q * down shift ≡ down r + q * up shift + copy

number_is : (i : ℕ) (r : ℤ) → up (pos i +ℤ r -ℤ pos 1) + down r + 1 ≡ i + up r + down (pos i +ℤ r -ℤ pos 1)
number_is i r = let a = (sum_is (pos i) r).is in let b = (sum_is (pos i +ℤ r) (negsuc 0)).is in omega arith

pub moved_is : (q i : ℕ) (r : ℤ) → 1 ≤ q → Moved q i r (moved_copy q i r) (moved_shift q i r)
moved_is q i r h =
    let f = floor_is (pos i +ℤ r -ℤ pos 1) q h in
    record { low = omega arith; high = omega (arith, f.small); is = omega (arith, f.is, number_is i r) }

pub moved_once : (q i : ℕ) (r : ℤ) (copy : ℕ) (shift : ℤ) → Moved q i r copy shift → (copy ≡ moved_copy q i r) × (shift ≡ moved_shift q i r)
moved_once q i r zero shift m = absurd (omega (arith, m.low))
moved_once q i r (suc c) shift m =
    let z = pos i +ℤ r -ℤ pos 1 in
    let f = floor_is z q (omega (arith, m.high)) in
    let u = floor_once z q shift (floor_div z q) c (floor_mod z q) (record { small = m.high; is = omega (arith, m.is, number_is i r) }) f in
    (omega (arith, u.1), u.0)

-- with no negative r it is the copy and the round of firing i + r
pub moved_forward : (q i r : ℕ) → 1 ≤ i → (moved_copy q i (pos r) ≡ copy_of q (i + r)) × (moved_shift q i (pos r) ≡ pos (round_of q (i + r)))
moved_forward q i r lo =
    let n = number_is i (pos r) in
    let e : pos i +ℤ pos r -ℤ pos 1 ≡ pos (i + r - 1) = same_number _ _ (omega arith) in
    (ap (λ (z : ℤ). floor_mod z q + 1) e, ap (λ (z : ℤ). floor_div z q) e)

-- r and r + q move to the same copy, a round apart
pub moved_round : (q i : ℕ) (r : ℤ) → 1 ≤ q → (moved_copy q i (r +ℤ pos q) ≡ moved_copy q i r) × (moved_shift q i (r +ℤ pos q) ≡ moved_shift q i r +ℤ pos 1)
moved_round q i r h =
    let m = moved_is q i r h in
    let s = (sum_is (moved_shift q i r) (pos 1)).is in
    let t = (sum_is r (pos q)).is in
    let u = moved_once q i (r +ℤ pos q) (moved_copy q i r) (moved_shift q i r +ℤ pos 1)
    (record { low = m.low; high = m.high; is = omega (arith, m.is, t, ap (λ (x : ℕ). q * x) s) }) in
    (sym u.0, sym u.1)
