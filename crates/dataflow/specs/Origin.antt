-- The origin of a token.
use Rattle.std.specs.Prelude.{◌≡◌, ℕ, suc, ◌+◌, ◌-◌, ◌*◌, ◌/◌, ◌%◌, ◌≤◌, ◌<◌}
use Rattle.std.proofs.Math.Decide.{dec_lt}
use Rattle.dataflow.specs.Places.{place_put}
use Rattle.dataflow.specs.Runs.{Token, initial, made}

-- Where firing g of the sink finds its token k.
abbrev pub place_taken : (consumed g k : ℕ) → ℕ
place_taken consumed g k = (g - 1) * consumed + (k - 1)

-- The token at place x: an initial one with its place, or a made one with its firing and its place in that firing.
pub data Origin (delay produced x : ℕ) : Token → Type 0 where
  was_initial : x < delay → Origin delay produced x (initial x)
  was_made : {f k : ℕ} → 1 ≤ f → 1 ≤ k → k ≤ produced → place_put delay produced f k ≡ x → Origin delay produced x (made f k)

-- That token worked out, on a queue of delay d whose source puts p at a time.
abbrev pub token_if : (d p x : ℕ) → Dec (x < d) → Token
token_if d p x (yes h) = initial x
token_if d p x (no h) = made (suc ((x - d) / p)) (suc ((x - d) % p))

abbrev pub token_at : (d p x : ℕ) → Token
token_at d p x = token_if d p x (dec_lt x d)
