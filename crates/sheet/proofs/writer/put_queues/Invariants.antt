use Prim.Native.Nat.{◌*◌}
use mathlib.Core.Path.{◌≡◌}
use lib.ListN.{length}
use Rattle.lists.specs.Put.{Wrote}
use Rattle.lists.specs.Joined.{joined}
use Rattle.sheet.specs.Format.{queue_bytes}
use Rattle.sheet.proofs.writer.put_queues.Given as goal

abbrev pub invariant-loop-e : goal.invariant-loop-e
invariant-loop-e l =
    let f = l.fields in
    (length l.out ≡ length l.initial.out)
    × Wrote l.initial.out l.base (joined l.e (queue_bytes f.source.now f.sink.now f.produced.now f.consumed.now f.delay.now)) (10 * l.e) l.out
