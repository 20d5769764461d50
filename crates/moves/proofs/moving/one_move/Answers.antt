use Rattle.std.proofs.Common.{[], ◌∷◌}
use Rattle.std.proofs.lemmas.Result.{err_from_is_err_and}
use mir.Facts.{to_z-of_z}
use Rattle.checks.proofs.CheckLaws.{ready_own, check_refuses, check_follows}
use Rattle.moves.specs.Moving.{move_row, Goes}
use Rattle.moves.proofs.moving.one_move.Goals as goal

pub fitting-requires : goal.fitting-requires
fitting-requires c = ready_own c.in_ok-check.ensures.accepted

pub returns-in_err-check : goal.returns-in_err-check
returns-in_err-check c =
    let a = c.args in
    let p = err_from_is_err_and c.from_residual.result c.from_residual.ensures.1 in
    rw (p.1, p.2) (check_refuses c.in_err-check.ensures (λ f. move_row f a.station a.copy a.r ∷ []))

pub returns : goal.returns
returns c =
    let a = c.args in
    check_follows c.in_ok-check.ensures (λ f. move_row f a.station a.copy a.r ∷ []) (λ f. Goes f a.station a.copy a.r) (rw (to_z-of_z c.ranges.r) at c.fitting.ensures)
