use mathlib.Core.Path.{◌∙◌}
use borrow.Author.Rules.{rules}
use Rattle.lists.proofs.PutLaws.{put_lent}
use Rattle.little.proofs.LittleLaws.{length_two, two_bytes}
use Rattle.little.proofs.put_u16.Goals as goal

pub returns : goal.returns
returns c =
    put_lent _ _ 2 _ _ (c.copy_from_slice.ensures.after ∙ c.to_le_bytes.ensures ∙ two_bytes c.args.x (search rules)) (length_two _)
    c.requires
