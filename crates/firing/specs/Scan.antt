-- The station that fires next, by the numbers of firings done.
use Rattle.std.specs.Prelude.{ℕ, ◌+◌, ◌*◌, ◌≤◌, ◌<◌, ◌^◌, ◌≡◌, List, Option, Some}
use Rattle.lists.specs.Front.{at}
use Rattle.lists.specs.Lowest.{ended}

-- every queue into v has the tokens of one more firing of v
abbrev pub Fed : (m : ℕ) (source sink produced consumed delay fired : List ℕ) (v : ℕ) → Type 0
Fed m source sink produced consumed delay fired v =
    (e : ℕ) → e < m → at sink e ≡ v → (at fired v + 1) * at consumed e ≤ at delay e + at fired (at source e) * at produced e

-- v has firings left and is fed
pub record Can (m : ℕ) (source sink produced consumed delay wanted fired : List ℕ) (v : ℕ) : Type 0 where
  pub left : at fired v < at wanted v
  pub fed : Fed m source sink produced consumed delay fired v

-- r is the lowest of the n stations that can fire, if there is one
pub record LowestThatCan (P : ℕ → Type 0) (n : ℕ) (r : Option ℕ) : Type 0 where
  pub below : (w : ℕ) → w < ended n r → P w → ⊥
  pub within : (v : ℕ) → r ≡ Some v → v < n
  pub can : (v : ℕ) → r ≡ Some v → P v

-- firings and delays are small enough for their products to fit
pub record Small (delay fired : List ℕ) : Type 0 where
  pub delays : (e : ℕ) → at delay e < 2 ^ 30
  pub firings : (v : ℕ) → at fired v ≤ 65536
