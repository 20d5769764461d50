-- Loop sums.
use Rattle.std.specs.Prelude.{List, [], ◌∷◌, ℕ, ◌+◌, ◌*◌}
use Rattle.dataflow.specs.Net.{Net}

module _ (G : Net) where
  -- Queues one after the other lead from u to v; a loop leads from v to v.
  pub data Way : (u v : ℕ) → List G.Queue → Type 0 where
    here : {v : ℕ} → Way v v []
    along : {v : ℕ} {l : List G.Queue} (e : G.Queue) → Way (G.sink e) v l → Way (G.source e) v (e ∷ l)

  abbrev pub divisor : G.Queue → ℕ
  divisor e = G.consumed e * G.q (G.sink e)

  abbrev pub divisors : List G.Queue → ℕ
  divisors [] = 1
  divisors (e ∷ l) = divisor e * divisors l

  -- The sum of delay / divisor over the queues, multiplied by the product of the divisors.
  abbrev pub loop_sum : (D : G.Queue → ℕ) → List G.Queue → ℕ
  loop_sum D [] = 0
  loop_sum D (e ∷ l) = D e * divisors l + divisor e * loop_sum D l
