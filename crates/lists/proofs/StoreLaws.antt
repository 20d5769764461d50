-- A list of nothing but 0, and a list after a store.
use Prim.Native.Nat.{ℕ, zero, suc, ◌<◌}
use mathlib.Core.Path.{◌≡◌, refl}
use mathlib.Core.List.{List}
use native.Mathlib.Decide.{ℕ_discrete}
use lib.ListN.{length, set, replicate}
use lib.Seq.{get_or-set_same, get_or-set_other}
use Rattle.lists.specs.Front.{at}

pub at_zeros : (k v : ℕ) → at (replicate k 0) v ≡ 0
at_zeros zero v = refl
at_zeros (suc k) zero = refl
at_zeros (suc k) (suc v) = at_zeros k v

-- what holds of the value at its place, and of each other entry at its own
pub after_store : (l : List ℕ) (v x : ℕ) → v < length l → (P : ℕ → ℕ → Type 0) → P v x → ((w : ℕ) → (w ≡ v → ⊥) → P w (at l w)) → (w : ℕ) → P w (at (set l v x) w)
after_store l v x h P here else w =
    elim (ℕ_discrete w v) [
      | yes e ↦ rw (e, get_or-set_same l v x 0 h) here
      | no n ↦ rw (get_or-set_other l v w x 0 n) (else w n)
    ]
