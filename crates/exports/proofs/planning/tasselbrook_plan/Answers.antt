use Rattle.exports.proofs.AnswerLaws.{plan_told}
use Rattle.exports.proofs.planning.tasselbrook_plan.Goals as goal

pub returns : goal.returns
returns c = rw c.from.ensures (plan_told c.plan.result c.plan.ensures)
