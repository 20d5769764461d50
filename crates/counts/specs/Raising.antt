-- The raising of counts.
use Rattle.std.specs.Prelude.{ℕ, ◌*◌, ◌≤◌, ◌<◌, ◌≡◌, List, length}
use Rattle.lists.specs.Front.{at}
use Rattle.lists.specs.Filled.{Filled}

-- 1 for each of n stations, and 0 beyond
pub record Ones (n : ℕ) (q : List ℕ) : Type 0 where
  pub long : length q ≡ 32
  pub ones : Filled (λ v x. x ≡ 1) n q

-- each count is at most 256
pub record Small (q : List ℕ) : Type 0 where
  pub most : (v : ℕ) → at q v ≤ 256

-- x balances queue e
abbrev pub Balanced : (source sink produced consumed : List ℕ) (x : ℕ → ℕ) (e : ℕ) → Type 0
Balanced source sink produced consumed x e = x (at source e) * at produced e ≡ x (at sink e) * at consumed e

-- The station is at an end of queue e. The count is above its own, and every vector at or above q that balances queue e reaches it.
pub record Raises (source sink produced consumed q : List ℕ) (e station count : ℕ) : Type 0 where
  pub end : (n : ℕ) → at source e < n → at sink e < n → station < n
  pub more : at q station < count
  pub asked : (x : ℕ → ℕ) → Balanced source sink produced consumed x e → at q (at source e) ≤ x (at source e) → at q (at sink e) ≤ x (at sink e) → count ≤ x station
