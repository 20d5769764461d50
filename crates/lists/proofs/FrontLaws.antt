-- The laws of tables and of what is written over a list's first entries.
use Prim.Native.Nat.{ℕ, zero, suc, ◌+◌, ◌≤◌, ◌<◌}
use mathlib.Core.Path.{◌≡◌, refl, ap, ◌∙◌}
use mathlib.Core.List.{List, [], ◌∷◌, ◌++◌}
use native.Mathlib.Nat.{not-suc-le-zero, le_of_suc-le-suc}
use native.Mathlib.Numerals.{add-one}
use native.Mathlib.Omega.{arith}
use lib.ListN.{length, set, length-append, length-drop, drop, get_or-append}
use lib.Seq.{get_or-append-add, get_or-drop, drop_at}
use Rattle.lists.specs.Front.{at, table, front}

pub length_table : (n : ℕ) (f : ℕ → ℕ) → length (table n f) ≡ n
unfolding table
length_table zero f = refl
length_table (suc n) f = ap suc (length_table n (λ k. f (suc k)))

pub at_table : (n : ℕ) (f : ℕ → ℕ) (k : ℕ) → k < n → at (table n f) k ≡ f k
unfolding table
at_table zero f k h = absurd (not-suc-le-zero h)
at_table (suc n) f zero h = refl
at_table (suc n) f (suc k) h = at_table n (λ j. f (suc j)) k (le_of_suc-le-suc h)

-- two tables agree where their functions do
pub table_same : (n : ℕ) (f g : ℕ → ℕ) → ((k : ℕ) → k < n → f k ≡ g k) → table n f ≡ table n g
unfolding table
table_same zero f g h = refl
table_same (suc n) f g h =
    rw (h zero (omega arith), table_same n (λ k. f (suc k)) (λ k. g (suc k)) (λ k l. h (suc k) (omega arith)))

pub front_same : (n : ℕ) (f g : ℕ → ℕ) (l : List ℕ) → ((k : ℕ) → k < n → f k ≡ g k) → front n f l ≡ front n g l
unfolding front
front_same n f g l h = rw (table_same n f g h)

pub front_none : (f : ℕ → ℕ) (l : List ℕ) → l ≡ front 0 f l
unfolding front table
front_none f l = refl

front_suc : (n : ℕ) (f : ℕ → ℕ) (l : List ℕ) → n < length l → set (front n f l) n (f n) ≡ front (suc n) f l
unfolding front table
front_suc n f [] h = absurd (not-suc-le-zero h)
front_suc zero f (x ∷ l) h = refl
front_suc (suc n) f (x ∷ l) h = ap (λ (t : List ℕ). f zero ∷ t) (front_suc n (λ k. f (suc k)) l (le_of_suc-le-suc h))

-- a store of the next value
pub front_more : (n : ℕ) (f : ℕ → ℕ) (l : List ℕ) → n < length l → set (front n f l) n (f n) ≡ front (n + 1) f l
front_more n f l h = rw add-one (front_suc n f l h)

pub length_front : (n : ℕ) (f : ℕ → ℕ) (l : List ℕ) → n ≤ length l → length (front n f l) ≡ length l
unfolding front
length_front n f l h = simp (length-append, length_table, length-drop) (omega arith)

pub at_front : (n : ℕ) (f : ℕ → ℕ) (l : List ℕ) (k : ℕ) → k < n → at (front n f l) k ≡ f k
unfolding front
at_front n f l k h = get_or-append (table n f) (drop n l) 0 k (rw length_table h) ∙ at_table n f k h

-- behind what is written over its first entries a list is as it was
pub front_rest : (n : ℕ) (f : ℕ → ℕ) (l : List ℕ) (i : ℕ) → at (front n f l) (n + i) ≡ at l (n + i)
unfolding front
front_rest n f l i = (rw (length_table n f) at (get_or-append-add (table n f) (drop n l) i 0)) ∙ get_or-drop n l i 0

pub drop_front : (n : ℕ) (f : ℕ → ℕ) (l : List ℕ) → drop n (front n f l) ≡ drop n l
unfolding front
drop_front n f l = drop_at (table n f) (drop n l) n (length_table n f)

-- a list written over the first entries of another
pub length_over : (v l : List ℕ) → length v ≤ length l → length (v ++ drop (length v) l) ≡ length l
length_over v l h = simp (length-append, length-drop) (omega arith)
