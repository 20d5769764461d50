-- A refusal as the library gives it, and an answer that may be one.
use Rattle.std.specs.Prelude.{ℕ, List, Result, Ok, Err, IfOk}
use Rattle.refusals.specs.declared.refusal.Refusal.{Refusal}
use Rattle.refusals.specs.declared.refusal.Refusal.TheVariants.{Short, Version, Counts, Layout, Field, Apart, CountsFail, Stuck, NoRetiming, Room, Hand, Negative, Slow, Token, Unbalanced}
use Rattle.refusals.specs.Table as table
use Rattle.refusals.specs.First.{Row, First}

-- the table's row of it
abbrev pub kind_of : Refusal → table.Refusal
kind_of Short = table.short
kind_of Version = table.version
kind_of Counts = table.counts
kind_of Layout = table.layout
kind_of (Field queue) = table.field
kind_of Apart = table.apart
kind_of CountsFail = table.counts_fail
kind_of Stuck = table.stuck
kind_of NoRetiming = table.no_retiming
kind_of Room = table.room
kind_of Hand = table.hand
kind_of (Negative queue) = table.negative
kind_of Slow = table.slow
kind_of Token = table.token
kind_of (Unbalanced queue) = table.unbalanced

abbrev pub number_of : Refusal → ℕ
number_of e = table.number (kind_of e)

-- the place that it names, 0 where it names none
abbrev pub place_of : Refusal → ℕ
place_of Short = 0
place_of Version = 0
place_of Counts = 0
place_of Layout = 0
place_of (Field queue) = queue
place_of Apart = 0
place_of CountsFail = 0
place_of Stuck = 0
place_of NoRetiming = 0
place_of Room = 0
place_of Hand = 0
place_of (Negative queue) = queue
place_of Slow = 0
place_of Token = 0
place_of (Unbalanced queue) = queue

-- the number and the place that an answer tells: 0 and 0 where it is no refusal
abbrev pub number_in : {T : Type 0} → Result T Refusal → ℕ
number_in (Ok x) = 0
number_in (Err e) = number_of e

abbrev pub place_in : {T : Type 0} → Result T Refusal → ℕ
place_in (Ok x) = 0
place_in (Err e) = place_of e

-- r is the first of the rows that applies, or P holds of what it gives
pub record Answered {T : Type 0} (rows : List Row) (P : T → Type 0) (r : Result T Refusal) : Type 0 where
  pub verdict : First rows (number_in r) (place_in r)
  pub accepted : IfOk r P
