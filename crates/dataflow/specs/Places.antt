-- Token places on one queue. Places are counted from 0; firings, and the tokens of a firing, from 1.
use Rattle.std.specs.Prelude.{◌≡◌, ℕ, ◌+◌, ◌-◌, ◌*◌, ◌≤◌, ◌<◌}

-- Where firing f of the source puts its token k.
abbrev pub place_put : (delay produced f k : ℕ) → ℕ
place_put delay produced f k = delay + (f - 1) * produced + (k - 1)

-- Firing f of the source puts one of its tokens at place x.
pub record Puts (delay produced f x : ℕ) : Type 0 where
  pub token : ℕ
  pub first : 1 ≤ token
  pub last : token ≤ produced
  pub place : place_put delay produced f token ≡ x

-- Firing g of the sink takes place x: one from (g - 1) × consumed up to g × consumed - 1.
pub record Takes (consumed g x : ℕ) : Type 0 where
  pub from : (g - 1) * consumed ≤ x
  pub upto : x < g * consumed

-- Firing g of the sink takes a token that firing f of the source puts.
pub record Depends (delay produced consumed f g : ℕ) : Type 0 where
  pub place : ℕ
  pub put : Puts delay produced f place
  pub taken : Takes consumed g place
