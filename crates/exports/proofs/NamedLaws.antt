-- The law of the dispatcher's part, named by numbers.
use mathlib.Core.Path.{◌≡◌}
use mathlib.Core.List.{List}
use Prim.Native.Nat.{ℕ}
use lib.ListN.{length, take, drop}
use borrow.Author.Rules.{part_to_end}
use Rattle.dataflow.specs.Dispatch.{Part, of_start, of_round, firings}
use Rattle.exports.specs.Named.{name_of}

-- the list of a name
abbrev pub list_of : (start round : List ℕ) → Part → List ℕ
list_of start round (of_start place) = start
list_of start round (of_round place) = round

-- the named entries are the part's
pub name_holds : (start round : List ℕ) (p : Part) → let a = name_of (length start) (length round) p in take a.length (drop a.place (list_of start round p)) ≡ firings start round p
name_holds start round (of_start place) = part_to_end start place
name_holds start round (of_round place) = part_to_end round place
