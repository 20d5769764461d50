-- The fill of a queue over a list of firings, and the room that a queue needs.
use Rattle.std.specs.Prelude.{◌≡◌, List, ◌++◌, ℕ, ◌≤◌, length, take}
use Rattle.dataflow.specs.Net.{Net}
use Rattle.dataflow.specs.Runs.{State, initially, after}

module _ (G : Net) where
  -- How many tokens queue e holds.
  abbrev pub fill : State G → G.Queue → ℕ
  fill S e = length (S.holds e)

  -- x is the largest number of tokens in queue e, at the start S or after any firing of the list. A firing takes, then puts; the tokens are counted when both are done.
  pub record Peak (S : State G) (l : List ℕ) (e : G.Queue) (x : ℕ) : Type 0 where
    pub covers : (n : ℕ) → n ≤ length l → fill (after G S (take n l)) e ≤ x
    pub firings : ℕ
    pub within : firings ≤ length l
    pub reached : fill (after G S (take firings l)) e ≡ x

  -- The room of queue e: its peak over the start list, from the sheet's delays d, followed by one round list.
  abbrev pub Room : (d : G.Queue → ℕ) (start round : List ℕ) (e : G.Queue) (x : ℕ) → Type 0
  Room d start round = Peak (initially G d) (start ++ round)
