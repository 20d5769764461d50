-- "The first that applies is given."
use Rattle.std.specs.Prelude.{ℕ, ◌<◌, List, length, get_or}
use Rattle.refusals.specs.Table.{Refusal, short, number}

-- A row of the table, and the places at which it applies.
pub record Row : Type 1 where
  pub refusal : Refusal
  pub applies : ℕ → Type 0

-- a row that names no place: it applies at every place or at none, so its place is 0
abbrev pub row : Refusal → Type 0 → Row
row refusal applies = record { refusal = refusal; applies = λ place. applies }

-- it applies nowhere
abbrev pub Passed : Row → Type 0
Passed r = (place : ℕ) → r.applies place → ⊥

-- the place is the lowest at which the row applies
pub record Lowest (r : Row) (place : ℕ) : Type 0 where
  pub applies : r.applies place
  pub none_below : (i : ℕ) → i < place → r.applies i → ⊥

-- the i-th of the rows, from 0
abbrev pub nth : List Row → ℕ → Row
nth rows i = get_or rows i (row short ⊥)

-- number and place of the first of the rows that applies; 0 and 0 where none does
pub data First (rows : List Row) : ℕ → ℕ → Type 0 where
  given : {place : ℕ} (i : ℕ) → i < length rows → ((j : ℕ) → j < i → Passed (nth rows j)) → Lowest (nth rows i) place → First rows (number (nth rows i).refusal) place
  free : ((j : ℕ) → j < length rows → Passed (nth rows j)) → First rows 0 0
