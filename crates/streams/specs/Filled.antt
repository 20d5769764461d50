-- A list that is filled from an input.
use Rattle.std.specs.Prelude.{ℕ, Result, Ok, Err}
use Rattle.streams.specs.declared.input.Unread.{Unread}

-- how many bytes stand at the front of the list, also where a read failed behind them
abbrev pub count_of : Result ℕ Unread → ℕ
count_of (Ok n) = n
count_of (Err e) = e.count
