-- What the dispatcher is handed.
use Rattle.std.specs.Prelude.{ℕ, ◌+◌, ◌*◌, ◌≡◌, List, length}
use Rattle.std.specs.Borrow.{Bor}
use Rattle.dataflow.specs.Dispatch.{Part, of_start, of_round, part, firings}

-- A list in memory: `now` are its entries, and `ref_ptr` is where the first of them lies, a block and a byte in it.
abbrev pub Lent : Type 0
Lent = Bor (List ℕ)

-- Where the entry at a place of a list lies: in the list's block, 2 bytes on for each entry before it.
abbrev pub entry_at : (list : Lent) (place : ℕ) → ℕ × ℕ
entry_at list place = (list.ref_ptr.0, place * 2 + list.ref_ptr.1)

-- Where a part lies: in the list of which it is the rest, from its place on.
abbrev pub lies_at : (start round : Lent) → Part → ℕ × ℕ
lies_at start round (of_start place) = entry_at start place
lies_at start round (of_round place) = entry_at round place

-- The part after done firings.
abbrev pub part_after : (start round : Lent) (done : ℕ) → Part
part_after start round done = part (length start.now) (length round.now) done

-- What is handed holds the part's entries. It lies where they lie in the list that was lent, so it is a part of that list and no copy.
pub record Handed (start round : Lent) (done : ℕ) (rest : Lent) : Type 0 where
  pub holds : rest.now ≡ firings start.now round.now (part_after start round done)
  pub lies : rest.ref_ptr ≡ lies_at start round (part_after start round done)
