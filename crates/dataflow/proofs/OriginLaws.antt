-- The token at each place: there is one, and no second.
use mathlib.Core.Path.{◌≡◌, refl, sym, ap}
use Prim.Native.Nat.{ℕ, zero, suc, ◌+◌, ◌-◌, ◌*◌, ◌/◌, ◌%◌, ◌≤◌, ◌<◌}
use native.Mathlib.Nat.{zero-add, div-add-mod', mod-lt}
use native.Mathlib.Omega.{arith}
use native.Mathlib.Decide.{dec_lt}
use lib.Arith.{digits_div, digits_mod}
use Rattle.dataflow.specs.Places.{place_put}
use Rattle.dataflow.specs.Runs.{Token, initial, made, list_from}
use Rattle.dataflow.specs.Origin.{Origin, was_initial, was_made, token_if, token_at}
use Rattle.dataflow.proofs.ListFrom.{from_ext}

pub origin_is : (d p x : ℕ) → 0 < p → Origin d p x (token_at d p x)
origin_is d p x hp = go (dec_lt x d)
  where
    go : (w : Dec (x < d)) → Origin d p x (token_if d p x w)
    go (yes h) = was_initial h
    go (no h) =
        let a : suc ((x - d) / p) - 1 ≡ (x - d) / p = omega arith in
        was_made {f = suc ((x - d) / p)} {k = suc ((x - d) % p)} (omega arith) (omega arith) (mod-lt (x - d) hp) (rw a (omega (arith, div-add-mod' (x - d) p)))

pub token_initial : (d p x : ℕ) → x < d → token_at d p x ≡ initial x
token_initial d p x h = go (dec_lt x d)
  where
    go : (w : Dec (x < d)) → token_if d p x w ≡ initial x
    go (yes l) = refl
    go (no n) = absurd (n h)

pub token_made : (d p k i : ℕ) → i < p → token_at d p (d + k * p + i) ≡ made (suc k) (suc i)
token_made d p k i h = go (dec_lt (d + k * p + i) d)
  where
    go : (w : Dec (d + k * p + i < d)) → token_if d p (d + k * p + i) w ≡ made (suc k) (suc i)
    go (yes l) = absurd (omega arith)
    go (no n) = let z : d + k * p + i - d ≡ k * p + i = omega arith in rw (z, digits_div, digits_mod)

pub origin_once : (d p x : ℕ) (t : Token) → Origin d p x t → t ≡ token_at d p x
origin_once d p x t (was_initial h) = sym (token_initial d p x h)
origin_once d p x t (was_made {f = f} {k = k} a b c e) = sym (at f k a b c e)
  where
    at : (f k : ℕ) → 1 ≤ f → 1 ≤ k → k ≤ p → place_put d p f k ≡ x → token_at d p x ≡ made f k
    at zero k a b c e = absurd (omega arith)
    at (suc f) zero a b c e = absurd (omega arith)
    at (suc f) (suc k) a b c e =
        let u : suc f - 1 ≡ f = omega arith in
        let v : suc k - 1 ≡ k = omega arith in
        let e' : d + f * p + k ≡ x = rw (u, v) at e in
        rw (← e') (token_made d p f k c)

-- the tokens of a firing, and the initial ones, as those of their places
pub from_made : (d p k : ℕ) → list_from (made (suc k)) 1 p ≡ list_from (token_at d p) (d + k * p) p
from_made d p k = from_ext (made (suc k)) (token_at d p) 1 (d + k * p) p (λ i h. rw (token_made d p k i h) (ap (made (suc k)) (omega arith)))

pub from_initial : (d p : ℕ) → list_from initial 0 d ≡ list_from (token_at d p) 0 d
from_initial d p = from_ext initial (token_at d p) 0 0 d (λ i h. simp zero-add (sym (token_initial d p i h)))
