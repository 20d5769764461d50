use mathlib.Core.Path.{refl}
use borrow.Author.Rules.{rules}
use Rattle.lists.proofs.PutLaws.{wrote_none, wrote_part}
use Rattle.sheet.specs.Format.{queue_bytes}
use Rattle.sheet.proofs.FormatLaws.{length_queue}
use Rattle.sheet.proofs.writer.put_queues.Goals as goal

pub loop-e-init : goal.loop-e-init
loop-e-init c = (refl, wrote_none _ _ 10 _)

pub loop-e-preserved : goal.loop-e-preserved
unfolding queue_bytes
loop-e-preserved c =
    let l = c.loop-e in
    let f = c.args.fields.now in (
      search rules,
      wrote_part 10 (queue_bytes f.source.now f.sink.now f.produced.now f.consumed.now f.delay.now) l.e
          (length_queue f.source.now f.sink.now f.produced.now f.consumed.now f.delay.now l.e) l.invariant.1 refl
          c.put_queue.ensures,
    )
