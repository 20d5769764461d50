use Prim.Native.Nat.{◌*◌}
use mathlib.Core.Path.{◌≡◌}
use lib.ListN.{length}
use Rattle.lists.specs.Put.{Wrote}
use Rattle.lists.specs.Joined.{joined}
use Rattle.sheet.specs.Format.{station_bytes}
use Rattle.sheet.proofs.writer.put_stations.Given as goal

abbrev pub invariant-loop-i : goal.invariant-loop-i
invariant-loop-i l =
    (length l.out ≡ length l.initial.out) × Wrote l.initial.out 20 (joined l.i (station_bytes l.fields.tag.now l.fields.time.now)) (4 * l.i) l.out
