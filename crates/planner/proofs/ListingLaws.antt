-- What firing a list that can be completed writes.
use Prim.Native.Nat.{ℕ, zero, suc, ◌≤◌}
use mathlib.Core.Path.{◌≡◌, refl, ap}
use mathlib.Core.Bool.{Bool, true, false}
use mathlib.Core.List.{List, [], ◌∷◌, ◌++◌}
use native.Mathlib.Omega.{arith}
use lib.ListN.{length, take, drop}
use Rattle.lists.specs.Front.{at, table, front}
use Rattle.dataflow.proofs.PrefixLaws.{stalled_cannot}
use Rattle.chain.specs.Chain.{net_of, delays_of}
use Rattle.firing.specs.Fire.{Wanted, Fires}
use Rattle.firing.proofs.FireLaws.{written}
use Rattle.planner.specs.Lists.{IsList, Completes, Written}

table_first : (n : ℕ) (l : List ℕ) → n ≤ length l → take n l ≡ table n (at l)
unfolding table
table_first zero l h = refl
table_first (suc n) [] h = absurd (omega arith)
table_first (suc n) (x ∷ l) h = ap (λ (t : List ℕ). x ∷ t) (table_first n l (omega arith))

-- the first entries of a list, written over those of another
pub first_written : (n : ℕ) (from to : List ℕ) → n ≤ length from → take n from ++ drop n to ≡ front n (at from) to
unfolding front
first_written n from to h = rw (table_first n from h) refl

module _ {n m : ℕ} {source sink produced consumed delay wanted : List ℕ} {total : ℕ} (w : Wanted n wanted total) {r : Bool} {before after : List ℕ}
    (f : Fires n m source sink produced consumed delay wanted total r before after) where
  no_list : r ≡ false → (time q l : List ℕ) → IsList n m source sink produced consumed delay wanted time q l → ⊥
  no_list e time q l =
      stalled_cannot (net_of n m source sink produced consumed time q) (delays_of m delay) (at wanted) (f.so_far time q) (omega (arith, f.fewer e, w.adds)) (f.none_can e time q) l

  -- a list that can be completed is written where there is room for it
  pub list_written : total ≤ length before → Completes n m source sink produced consumed delay wanted → Written n m source sink produced consumed delay wanted before after
  list_written room c = go r refl
    where
      go : (b : Bool) → r ≡ b → Written n m source sink produced consumed delay wanted before after
      go false e = absurd (no_list e c.0 c.1 c.2 c.3)
      go true e = let x = written f w e room in record { list = f.made; is = f.complete e; stored = rw x.0 x.1 }
