-- The dispatcher's part, named by numbers.
use Rattle.std.specs.Prelude.{ℕ, ◌-◌, List, length}
use Rattle.dataflow.specs.Dispatch.{Part, of_start, of_round, part}
use Rattle.exports.specs.declared.named.Rest.{Rest}

-- the list (0 start, 1 round), the part's place in it and its length, for lists of these lengths
abbrev pub name_of : (starts rounds : ℕ) → Part → Rest
name_of starts rounds (of_start place) = record { list = 0; place = place; length = starts - place }
name_of starts rounds (of_round place) = record { list = 1; place = place; length = rounds - place }

-- the name of the part after done firings
abbrev pub name_after : (start round : List ℕ) (done : ℕ) → Rest
name_after start round done = name_of (length start) (length round) (part (length start) (length round) done)
