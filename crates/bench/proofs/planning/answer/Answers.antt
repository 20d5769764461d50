use Rattle.planner.proofs.FitLaws.{fits}
use Rattle.bench.proofs.planning.answer.Goals as goal

pub plan-requires : goal.plan-requires
plan-requires g c = fits _ _ _ _ _ _ _ _ c.plan_lent-planned.ensures.plans
