-- A fact of each number below m.
use mathlib.Core.Path.{refl, sym, ap, subst}
use mathlib.Core.List.{List, [], ◌∷◌, map, Memᴰ}
use Prim.Native.Nat.{ℕ, zero, suc, ◌<◌}
use native.Mathlib.Omega.{arith}
use native.Mathlib.Fin
use native.Mathlib.Decide.{ℕ_discrete}
use Rattle.dataflow.specs.Sheet.{Below, below, raise}

-- P of each element of a list
abbrev pub Each : {A : Type 0} → (A → Type 0) → List A → Type 0
Each P [] = Unit {0}
Each P (x ∷ l) = P x × Each P l

pub each_in : {A : Type 0} (P : A → Type 0) {a : A} {l : List A} → Memᴰ a l → Each P l → P a
each_in P (Memᴰ.head e) h = subst P (sym e) h.0
each_in P (Memᴰ.tail m) h = each_in P m h.1

pub each_of : {A : Type 0} (P : A → Type 0) → ((a : A) → P a) → (l : List A) → Each P l
each_of P h [] = tt
each_of P h (x ∷ l) = (h x, each_of P h l)

in_map : {A B : Type 0} (f : A → B) {a : A} {l : List A} → Memᴰ a l → Memᴰ (f a) (map f l)
in_map f (Memᴰ.head e) = Memᴰ.head (ap f e)
in_map f (Memᴰ.tail m) = Memᴰ.tail (in_map f m)

-- below m names them all
pub below_all : (m : ℕ) (e : Below m) → Memᴰ e (below m)
below_all zero e = absurd (omega (arith, e.1))
below_all (suc m) e = at (λ i. below_all m i) e.0 e.1
  where
    at : ((i : Below m) → Memᴰ i (below m)) → (i : ℕ) (h : i < suc m) → Memᴰ {A = Below (suc m)} (i, h) (below (suc m))
    at all zero h = Memᴰ.head (Fin.val_path refl)
    at all (suc i) h =
        let i' : Below m = (i, omega arith) in
        Memᴰ.tail (subst (λ (x : Below (suc m)). Memᴰ x (map raise (below m))) (Fin.val_path {i = raise i'} {j = (suc i, h)} refl) (in_map raise (all i')))

pub each_below : (m : ℕ) (P : Below m → Type 0) → Each P (below m) → (e : Below m) → P e
each_below m P h e = each_in P (below_all m e) h

-- the same for numbers with no proof beside them
abbrev pub Upto : (ℕ → Type 0) → ℕ → Type 0
Upto P zero = Unit {0}
Upto P (suc n) = Upto P n × P n

pub upto : (P : ℕ → Type 0) (n : ℕ) → Upto P n → (v : ℕ) → v < n → P v
upto P zero h v k = absurd (omega arith)
upto P (suc n) h v k = elim (ℕ_discrete v n) [ yes e ↦ rw e h.1 | no x ↦ upto P n h.0 v (omega arith) ]

pub upto_of : (P : ℕ → Type 0) (n : ℕ) → ((v : ℕ) → v < n → P v) → Upto P n
upto_of P zero h = tt
upto_of P (suc n) h = (upto_of P n (λ v k. h v (omega arith)), h n (omega arith))
