use mathlib.Core.Path.{refl}
use Rattle.lists.proofs.PutLaws.{wrote, wrote_more}
use Rattle.little.proofs.LittleLaws.{length_two}
use Rattle.sheet.proofs.writer.put_queue.Goals as goal

pub returns : goal.returns
returns c =
    (wrote_more _
    (wrote_more _
    (wrote_more _
    (wrote_more _
    (wrote c.put_u16.ensures (length_two _)) refl
    c.put_u16-2.ensures (length_two _)) refl
    c.put_u16-3.ensures (length_two _)) refl
    c.put_u16-4.ensures (length_two _)) refl
    c.put_u16-5.ensures (length_two _)
    ).is
