-- A queue by its number.
use Prim.Native.Nat.{ℕ, zero, suc, ◌<◌}
use mathlib.Core.Path.{◌≡◌, refl, ap, ◌∙◌}
use mathlib.Core.List.{List, [], ◌∷◌, map}
use mathlib.Core.Option.{some}
use native.Mathlib.Omega.{arith}
use native.Mathlib.Fin
use lib.ListN.{get_elem?}
use Rattle.dataflow.specs.Sheet.{Below, below, raise}

module _ {A B : Type 0} (f : A → B) where
  to_map : (l : List A) (i : ℕ) (x : A) → get_elem? l i ≡ some x → get_elem? (map f l) i ≡ some (f x)
  to_map [] i x h = absurd (let z : ◌≡◌ {A = ℕ} 0 1 = cc in omega arith)
  to_map (a ∷ l) zero x h = cc
  to_map (a ∷ l) (suc i) x h = to_map l i x h

  from_map : (l : List A) (i : ℕ) (y : B) → get_elem? (map f l) i ≡ some y → (x : A) × (get_elem? l i ≡ some x) × (y ≡ f x)
  from_map [] i y h = absurd (let z : ◌≡◌ {A = ℕ} 0 1 = cc in omega arith)
  from_map (a ∷ l) zero y h = (a, refl, cc)
  from_map (a ∷ l) (suc i) y h = from_map l i y h

-- the queue e has the number e
pub number_of_lem : (m e : ℕ) (h : e < m) → get_elem? (below m) e ≡ some (e, h)
number_of_lem zero e h = absurd (omega arith)
number_of_lem (suc m) zero h = ap some (Fin.val_path refl)
number_of_lem (suc m) (suc e) h =
    let l : e < m = omega arith in
    to_map raise (below m) e (e, l) (number_of_lem m e l) ∙ ap some (Fin.val_path refl)

-- and no other queue has it
pub number_is : (m : ℕ) (q : Below m) (e : ℕ) → get_elem? (below m) e ≡ some q → q.0 ≡ e
number_is zero q e h = absurd (omega (arith, q.1))
number_is (suc m) q zero h = cc
number_is (suc m) q (suc e) h =
    let x = from_map raise (below m) e q h in
    ap (λ (y : Below (suc m)). y.0) x.2 ∙ ap suc (number_is m x.0 e x.1)
