-- Dependences as inequalities.
use mathlib.Core.Path.{◌≡◌, ap}
use Prim.Native.Nat.{ℕ, zero, suc, ◌+◌, ◌-◌, ◌*◌, ◌/◌, ◌≤◌, ◌<◌, max}
use native.Mathlib.Nat.{mul-le-mul_right, lt_of_mul-lt-mul_right, le_dest, div-add-mod', mod-lt}
use native.Mathlib.Omega.{arith}
use Rattle.dataflow.specs.Places.{Depends}

-- Firing g takes a token of firing f: delay + (f - 1) × produced < g × consumed and (g - 1) × consumed < delay + f × produced.
pub record Feed (d p c f g : ℕ) : Type 0 where
  pub early : d + f * p < g * c + p
  pub late : g * c < d + f * p + c

pub feed_of : (d p c f g : ℕ) → 1 ≤ f → 1 ≤ g → Depends d p c f g → Feed d p c f g
feed_of d p c zero g lo lo' h = absurd (omega arith)
feed_of d p c (suc f) zero lo lo' h = absurd (omega arith)
feed_of d p c (suc f) (suc g) lo lo' h =
    let a : suc f - 1 ≡ f = omega arith in
    let b : suc g - 1 ≡ g = omega arith in
    omega (arith, rw a at h.put.place, rw b at h.taken.from)

pub depends_of : (d p c f g : ℕ) → 0 < p → 0 < c → 1 ≤ f → 1 ≤ g → Feed d p c f g → Depends d p c f g
depends_of d p c zero g hp hc lo lo' h = absurd (omega arith)
depends_of d p c (suc f) zero hp hc lo lo' h = absurd (omega arith)
depends_of d p c (suc f) (suc g) hp hc lo lo' h =
    let a : suc f - 1 ≡ f = omega arith in
    let b : suc g - 1 ≡ g = omega arith in
    let x : ℕ = max (d + f * p) (g * c) in
    record {
      place = x;
      put = record { token = suc (x - (d + f * p)); first = omega arith; last = omega arith; place = rw a (omega arith) };
      taken = record { from = rw b (omega arith); upto = omega arith };
    }

-- The last token decides: what firing g takes from f, a later firing takes from f or a later one.
pub feed_up : (d p c f g g' n m : ℕ) → 0 < p → 0 < c → n * p ≡ m * c → 1 ≤ f → Feed d p c f g → g ≤ g' → g' ≤ m
    → (f' : ℕ) × (f ≤ f') × (f' ≤ n) × Feed d p c f' g'
feed_up d p c f g g' n m hp hc bal hf h le hi =
    let up = mul-le-mul_right c le in
    let top = mul-le-mul_right c hi in
    let pf = mul-le-mul_right p hf in
    let w : d < g' * c = omega arith in
    let k = le_dest w in
    let dm = div-add-mod' k.0 p in
    let ml = mod-lt k.0 hp in
    let f' : ℕ = suc (k.0 / p) in
    let a : f * p < suc f' * p = omega arith in
    let b : f' * p < suc n * p = omega arith in
    let a' = lt_of_mul-lt-mul_right p a in
    let b' = lt_of_mul-lt-mul_right p b in
    (f', omega arith, omega arith, omega arith)

-- the firing that makes the last token that g takes
pub feed_last : (d p c g : ℕ) → 0 < p → 0 < c → d < g * c → (f : ℕ) × (1 ≤ f) × (g * c ≤ d + f * p) × Feed d p c f g
feed_last d p c g hp hc w =
    let k = le_dest w in
    let dm = div-add-mod' k.0 p in
    let ml = mod-lt k.0 hp in
    (suc (k.0 / p), omega arith, omega arith, omega arith)

-- A dependence in another numbering of the firings: f + a ≡ f' + a' at the source, g + b ≡ g' + b' at the sink.
pub feed_move : (d d' p c f f' g g' a a' b b' : ℕ) → d + p * a' + c * b ≡ d' + p * a + c * b' → f + a ≡ f' + a' → g + b ≡ g' + b'
    → Feed d p c f g → Feed d' p c f' g'
feed_move d d' p c f f' g g' a a' b b' e ef eg h =
    let ef' = ap (λ (x : ℕ). x * p) ef in
    let eg' = ap (λ (x : ℕ). x * c) eg in
    omega arith

-- the firing that takes, in the new numbering
pub feed_next : (d d' p c f f' g a a' b b' : ℕ) → d + p * a' + c * b ≡ d' + p * a + c * b' → f + a ≡ f' + a' → 1 ≤ f' → Feed d p c f g
    → (g' : ℕ) × (g + b ≡ g' + b') × (1 ≤ g') × Feed d' p c f' g'
feed_next d d' p c f f' g a a' b b' e ef lo h =
    let ef' = ap (λ (x : ℕ). x * p) ef in
    let lo' = mul-le-mul_right p lo in
    let w : b' * c < (g + b) * c = omega arith in
    let w' = lt_of_mul-lt-mul_right c w in
    let k = le_dest w' in
    let eg : g + b ≡ suc k.0 + b' = omega arith in
    (suc k.0, eg, omega arith, feed_move d d' p c f f' g (suc k.0) a a' b b' e ef eg h)

-- No dependence runs back over a round: a firing of the first m takes from the first n alone, where n firings make what m take.
pub feed_high : (d p c f g n m : ℕ) → n * p ≡ m * c → Feed d p c f g → g ≤ m → f ≤ n
feed_high d p c f g n m bal h hi =
    let top = mul-le-mul_right c hi in
    let b : f * p < suc n * p = omega arith in
    let b' = lt_of_mul-lt-mul_right p b in
    omega arith
