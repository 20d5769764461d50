use Rattle.refusals.specs.declared.refusal.Refusal.TheVariants.{NoRetiming}
use Rattle.checks.proofs.CheckLaws.{ready_ordered}
use Rattle.planner.proofs.AnswerLaws.{answer_refused, answer_passes}
use Rattle.planner.proofs.RowLaws.{none_serve, serve_passed}
use Rattle.planner.proofs.making.searched.Goals as goal

pub search-requires : goal.search-requires
search-requires c = (c.requires.given, ready_ordered c.requires)

pub returns-in_default : goal.returns-in_default
returns-in_default c = answer_refused NoRetiming (none_serve c.requires c.in_default.ensures)

pub returns : goal.returns
returns c = answer_passes (serve_passed (record { ready = c.requires; retimes = c.in-Some.ensures })) c.lent.ensures
