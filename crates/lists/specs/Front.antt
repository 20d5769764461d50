-- Tables, and lists that a table is written over.
use Rattle.std.specs.Prelude.{ℕ, zero, suc, List, [], ◌∷◌, ◌++◌, get_or, drop, replicate}

-- the entry at a place, 0 past the end
abbrev pub at : List ℕ → ℕ → ℕ
at l i = get_or l i 0

-- f 0, f 1, .., n of them
unfoldable pub table : ℕ → (ℕ → ℕ) → List ℕ
table zero f = []
table (suc n) f = f zero ∷ table n (λ k. f (suc k))

-- the list with f 0 .. f (n-1) over its first n entries
unfoldable pub front : ℕ → (ℕ → ℕ) → List ℕ → List ℕ
front n f l = table n f ++ drop n l

-- f 0, f 1, .., count of them, and 0 up to size
abbrev pub padded : (size count : ℕ) → (ℕ → ℕ) → List ℕ
padded size count f = front count f (replicate size 0)
