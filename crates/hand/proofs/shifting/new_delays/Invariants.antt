use Rattle.std.proofs.Common.{◌≡◌, length}
use Rattle.checks.specs.Check.{sheet_in}
use Rattle.hand.proofs.ShiftLaws.{LeftTo}
use Rattle.hand.proofs.shifting.new_delays.Given as goal

abbrev pub invariant-loop-e : goal.invariant-loop-e
invariant-loop-e l = (length l.new ≡ 64) × LeftTo (sheet_in l.checked) l.hand l.e l.new
