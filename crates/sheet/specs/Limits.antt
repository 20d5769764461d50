-- The limits of a sheet's numbers.
use Rattle.std.specs.Prelude.{ℕ, ◌≤◌, ◌<◌, List, length}
use Rattle.lists.specs.Front.{at}
use Rattle.sheet.specs.declared.Sheet.{Sheet}

-- n 1 to 32; m 0 to 64
pub record CountsFit (n m : ℕ) : Type 0 where
  pub some : 1 ≤ n
  pub stations : n ≤ 32
  pub queues : m ≤ 64

-- both ends are stations; produced and consumed 1 to 64; delay 0 to 4,095
pub record QueueFits (n source sink produced consumed delay : ℕ) : Type 0 where
  pub from : source < n
  pub to : sink < n
  pub makes : 1 ≤ produced
  pub makes_most : produced ≤ 64
  pub takes : 1 ≤ consumed
  pub takes_most : consumed ≤ 64
  pub holds_most : delay ≤ 4095

-- queue e of n stations and these columns of queue fields
abbrev pub ColumnsFit : (n : ℕ) (source sink produced consumed delay : List ℕ) (e : ℕ) → Type 0
ColumnsFit n source sink produced consumed delay e =
    QueueFits n (at source e) (at sink e) (at produced e) (at consumed e) (at delay e)

-- each column has an entry for each of m queues
pub record Columns (m : ℕ) (source sink produced consumed delay : List ℕ) : Type 0 where
  pub sources : m ≤ length source
  pub sinks : m ≤ length sink
  pub produceds : m ≤ length produced
  pub consumeds : m ≤ length consumed
  pub delays : m ≤ length delay

-- each column of a sheet has an entry for each of its queues
abbrev pub SheetColumns : Sheet → Type 0
SheetColumns f = Columns f.m f.source f.sink f.produced f.consumed f.delay

-- queue e of a sheet
abbrev pub SheetQueueFits : (f : Sheet) (e : ℕ) → Type 0
SheetQueueFits f = ColumnsFit f.n f.source f.sink f.produced f.consumed f.delay
