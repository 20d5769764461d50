-- The firing that takes the first token of another.
use mathlib.Core.Path.{◌≡◌}
use Prim.Native.Nat.{ℕ, zero, suc, ◌+◌, ◌-◌, ◌*◌, ◌/◌, ◌≤◌, ◌<◌}
use native.Mathlib.Nat.{mul-le-mul_right, lt_of_mul-lt-mul_right, div-add-mod', mod-lt}
use native.Mathlib.Omega.{arith}
use Rattle.dataflow.specs.FirstToken.{TakesFirst}
use Rattle.dataflow.proofs.FeedLaws.{Feed}

-- Firing g takes the first token of firing f: (g - 1) × consumed ≤ delay + (f - 1) × produced < g × consumed.
pub record FirstTaker (d p c f g : ℕ) : Type 0 where
  pub first : 1 ≤ g
  pub early : d + f * p < g * c + p
  pub late : g * c + p ≤ d + f * p + c

pub taker_of : (d p c f g : ℕ) → 1 ≤ f → TakesFirst d p c f g → FirstTaker d p c f g
taker_of d p c zero g lo h = absurd (omega arith)
taker_of d p c (suc f) zero lo h = let z : suc f - 1 ≡ f = omega arith in absurd (omega (arith, rw z at h.upto))
taker_of d p c (suc f) (suc g) lo h =
    let a : suc f - 1 ≡ f = omega arith in
    let b : suc g - 1 ≡ g = omega arith in
    omega (arith, rw a at h.upto, rw (a, b) at h.from)

pub of_taker : (d p c f g : ℕ) → 1 ≤ f → FirstTaker d p c f g → TakesFirst d p c f g
of_taker d p c zero g lo h = absurd (omega arith)
of_taker d p c (suc f) zero lo h = absurd (omega (arith, h.first))
of_taker d p c (suc f) (suc g) lo h =
    let a : suc f - 1 ≡ f = omega arith in
    let b : suc g - 1 ≡ g = omega arith in
    record { from = rw (a, b) (omega (arith, h.late)); upto = rw a (omega (arith, h.early)) }

-- It is found by one division: with firings counted from 0, (delay + f × produced) / consumed.
pub taker_is : (d p c f : ℕ) → 0 < c → FirstTaker d p c (suc f) (suc ((d + f * p) / c))
taker_is d p c f hc =
    let x = d + f * p in
    let e = div-add-mod' x c in
    let m = mod-lt x hc in
    omega arith

-- and there is no second
pub taker_once : (d p c f g g' : ℕ) → FirstTaker d p c f g → FirstTaker d p c f g' → g ≡ g'
taker_once d p c f g g' h h' =
    let a = lt_of_mul-lt-mul_right c {m = g} {n = suc g'} (omega (arith, h.late, h'.early)) in
    let b = lt_of_mul-lt-mul_right c {m = g'} {n = suc g} (omega (arith, h'.late, h.early)) in
    omega arith

-- It depends on that firing.
pub taker_feed : (d p c f g : ℕ) → 0 < p → FirstTaker d p c f g → Feed d p c f g
taker_feed d p c f g hp h = record { early = h.early; late = omega (arith, h.late) }

-- The first taker of a firing is no later than any taker of a later firing.
pub taker_low : (d p c f f' g g' : ℕ) → FirstTaker d p c f g → Feed d p c f' g' → f ≤ f' → g ≤ g'
taker_low d p c f f' g g' h h' le =
    let up = mul-le-mul_right p le in
    let a = lt_of_mul-lt-mul_right c {m = g} {n = suc g'} (omega (arith, h.late, h'.early)) in
    omega arith
