use mathlib.Core.Path.{◌≡◌}
use lib.ListN.{length}
use Rattle.retimed.specs.Back.{StartFirings}
use Rattle.retimed.proofs.back.start_firings.Given as goal

abbrev pub invariant-loop-v : goal.invariant-loop-v
invariant-loop-v l = record { long : length l.firings ≡ 32; filled : StartFirings l.v l.q l.retiming l.back l.firings }
