-- A column written over another.
use Prim.Native.Nat.{ℕ}
use mathlib.Core.Path.{◌≡◌, refl, ap}
use mathlib.Core.List.{List, [], ◌∷◌}
use native.Mathlib.Omega.{arith}
use lib.ListN.{length}
use Rattle.lists.specs.Front.{at, table, front}

-- all entries of a column, written over one of the same length
pub front_all : (from to : List ℕ) → length from ≡ length to → front (length from) (at from) to ≡ from
unfolding front table
front_all [] [] h = refl
front_all [] (y ∷ to) h = absurd (omega arith)
front_all (x ∷ from) [] h = absurd (omega arith)
front_all (x ∷ from) (y ∷ to) h = ap (λ (l : List ℕ). x ∷ l) (front_all from to (omega arith))
