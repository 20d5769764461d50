-- Products of at most 32 rates fit four limbs.
use Prim.Native.Nat.{ℕ, ◌*◌, ◌^◌, ◌≤◌, ◌<◌}
use native.Mathlib.Nat.{mul-le-mul, mul-le-mul_left, pow-suc, pow-le-pow_right, le_trans, lt_of_le_of_lt}
use native.Mathlib.Omega.{arith}
use lib.Dec.{lit<}
use Rattle.limbs.specs.Value.{limit}

-- 64 to the power 32, the largest product of 32 rates
unfoldable pub most : ℕ
most = 64 ^ 32

-- a product of rates that leaves room for i more
abbrev pub Spare : (product i : ℕ) → Type 0
Spare product i = product * 64 ^ i ≤ most

power_more : (i j : ℕ) → j < i → 64 ^ j * 64 ≤ 64 ^ i
power_more i j h = rw (← pow-suc 64 j) (pow-le-pow_right {n = 64} (omega arith) h)

-- one rate, and 31 more at most
pub spare_first : (rate i : ℕ) → rate ≤ 64 → i < 32 → Spare rate i
unfolding most
spare_first rate i h k = let l : i ≤ 31 = omega arith in mul-le-mul h (pow-le-pow_right {n = 64} (omega arith) l)

pub spare_next : (product rate i j : ℕ) → Spare product i → j < i → rate ≤ 64 → Spare (product * rate) j
spare_next product rate i j h l r =
    let s = mul-le-mul_left product (power_more i j l) in
    let t = mul-le-mul_left (product * 64 ^ j) r in
    omega arith

spare_one : (product i : ℕ) → Spare product i → 1 ≤ i → product * 64 ≤ most
spare_one product i h some = let t = mul-le-mul_left product (power_more i 0 some) in omega arith

most_fits : (x : ℕ) → x ≤ most → x < limit
unfolding limit most
most_fits x h = lt_of_le_of_lt h (lit< tt)

-- where there is room for one more rate, the product with it fits four limbs
pub spare_fits : (product rate i : ℕ) → Spare product i → 1 ≤ i → rate ≤ 64 → product * rate < limit
spare_fits product rate i h some r = most_fits (product * rate) (le_trans (mul-le-mul_left product r) (spare_one product i h some))
