use Rattle.plan.proofs.InputLaws.{plans_input}
use Rattle.plan.proofs.plan_input.Goals as goal

pub returns : goal.returns
returns c = plans_input c.requires.enough c.plan_lent.ensures
