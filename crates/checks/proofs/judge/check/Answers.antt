use Rattle.std.proofs.lemmas.Result.{err_from_is_err_and}
use Rattle.checks.proofs.SheetLaws.{read_fits}
use Rattle.checks.proofs.CheckLaws.{read_refused, read_judged}
use Rattle.checks.proofs.judge.check.Goals as goal

pub returns-in_err-read : goal.returns-in_err-read
returns-in_err-read c = let p = err_from_is_err_and c.from_residual.result c.from_residual.ensures.1 in rw (p.1, p.2) (read_refused c.in_err-read.ensures)

pub chained-requires : goal.chained-requires
chained-requires c = read_fits c.in_ok-read.ensures

pub returns : goal.returns
returns c = read_judged c.in_ok-read.ensures c.chained.ensures
