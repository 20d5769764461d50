use Rattle.std.proofs.Common.{refl}
use mir.Facts.{to_z-of_z}
use Rattle.exports.specs.Moving.{moved_kind, as_moved}
use Rattle.exports.proofs.AnswerLaws.{answered_as}
use Rattle.exports.proofs.moving.tasselbrook_one_move.Goals as goal

pub returns : goal.returns
returns c =
    answered_as moved_kind as_moved (λ x. refl) (λ x. refl) (λ x p. p) c.from.ensures (rw (to_z-of_z c.ranges.r) at c.one_move.ensures)
