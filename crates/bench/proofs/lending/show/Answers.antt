use Rattle.planner.proofs.FitLaws.{answer_fits}
use Rattle.bench.proofs.lending.show.Goals as goal

pub plan-requires : goal.plan-requires
plan-requires g c = answer_fits _ c.plan-planned.ensures
