use Rattle.planner.proofs.LentLaws.{plans_lent}
use Rattle.planner.proofs.lending.plan_lent.Goals as goal

pub returns : goal.returns
returns c = plans_lent c.plan.ensures (record { starts = c.told-start; rounds = c.told-round; copies = c.told-times })
