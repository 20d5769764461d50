use Rattle.std.proofs.lemmas.Result.{err_from_is_err_and}
use Rattle.planner.proofs.AnswerLaws.{check_refused, check_passed}
use Rattle.planner.proofs.making.plan.Goals as goal

pub returns-in_err-check : goal.returns-in_err-check
returns-in_err-check c = let p = err_from_is_err_and c.from_residual.result c.from_residual.ensures.1 in rw (p.1, p.2) (check_refused c.in_err-check.ensures)

pub returns : goal.returns
returns c = check_passed c.in_ok-check.ensures c.searched.ensures
