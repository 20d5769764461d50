use Rattle.std.proofs.Common.{[], ◌∷◌}
use Rattle.std.proofs.lemmas.Result.{err_from_is_err_and}
use Rattle.checks.proofs.CheckLaws.{check_refuses, check_follows}
use Rattle.tokens.specs.Told.{token_row, Told}
use Rattle.tokens.proofs.told.origin_of.Goals as goal

pub returns-in_err-check : goal.returns-in_err-check
returns-in_err-check c =
    let a = c.args in
    let p = err_from_is_err_and c.from_residual.result c.from_residual.ensures.1 in
    rw (p.1, p.2) (check_refuses c.in_err-check.ensures (λ f. token_row f a.queue a.firing a.token ∷ []))

pub returns : goal.returns
returns c =
    let a = c.args in
    check_follows c.in_ok-check.ensures (λ f. token_row f a.queue a.firing a.token ∷ []) (λ f. Told f a.queue a.firing a.token) c.found.ensures
