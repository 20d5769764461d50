use mathlib.Core.Path.{refl}
use Rattle.lists.proofs.PutLaws.{wrote, wrote_more}
use Rattle.little.proofs.LittleLaws.{length_four, length_two}
use Rattle.sheet.specs.Format.{header_bytes}
use Rattle.sheet.proofs.writer.put_header.Goals as goal

pub returns : goal.returns
unfolding header_bytes
returns c =
    (wrote_more _
    (wrote_more _
    (wrote_more _
    (wrote_more _
    (wrote_more _
    (wrote_more _
    (wrote c.put_u16.ensures (length_two _)) refl
    c.put_u16-2.ensures (length_two _)) refl
    c.put_u16-3.ensures (length_two _)) refl
    c.put_u16-4.ensures (length_two _)) refl
    c.put_u32.ensures (length_four _)) refl
    c.put_u32-2.ensures (length_four _)) refl
    c.put_u32-3.ensures (length_four _)
    ).is
