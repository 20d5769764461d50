use native.Mathlib.Omega.{arith}
use Rattle.firing.proofs.PeriodLaws.{round_ordered, period_is}
use Rattle.hand.proofs.TrialLaws.{must_fire}
use Rattle.hand.proofs.trial.period_with.Goals as goal

pub time_table-table-requires : goal.time_table-table-requires
time_table-table-requires c =
    let round = c.args.checked.now.round in
    (c.requires.small, round_ordered round.counted c.fire_list.ensures c.args.checked.now.time (must_fire c.requires c.fire_list.ensures) (omega (arith, round.counted.few)))

pub returns : goal.returns
returns c =
    let round = c.args.checked.now.round in
    let o = round_ordered round.counted c.fire_list.ensures c.args.checked.now.time (must_fire c.requires c.fire_list.ensures) (omega (arith, round.counted.few)) in
    period_is _ _ _ _ _ _ _ _ _ _ round.counted o c.time_table-table.ensures c.latest_end.ensures
