use Rattle.planner.proofs.FitLaws.{answer_fits}
use Rattle.plan.proofs.run.Goals as goal

pub plan-requires : goal.plan-requires
plan-requires g c = answer_fits _ c.plan_input-planned.ensures.taken.plans
