use Rattle.std.proofs.Common.{◌≤◌, arith}
use Rattle.search.proofs.UnderwayLaws.{begun, retiming_few, delays_small, ended, delays_fit, late_small, cuttable, raised_once, gave_up}
use Rattle.search.proofs.rounds.search.Goals as goal

pub loop-rounds-init : goal.loop-rounds-init
loop-rounds-init c = begun _ _ _ _ _ _ _ _ _ _ _ c.requires.0 c.requires.1

pub time_table-table-requires : goal.time_table-table-requires
time_table-table-requires c =
    let few : c.loop-rounds.rounds ≤ 256 = omega (arith, c.args.round.now.counted.few) in
    (delays_small _ _ _ _ _ _ _ _ _ _ _ c.args.round.now.counted c.loop-rounds.invariant c.requires.0 few, c.loop-rounds.invariant.ordered)

pub returns-then-period-target : goal.returns-then-period-target
returns-then-period-target c =
    let few : c.loop-rounds.rounds ≤ 256 = omega (arith, c.args.round.now.counted.few) in
    ended _ _ _ _ _ _ _ _ _ _ _ c.args.round.now.counted c.loop-rounds.invariant c.requires.0 few c.time_table-table.ensures c.latest_end-period.ensures (omega (arith, c.if-period-target.true))

pub reorder-order-requires : goal.reorder-order-requires
reorder-order-requires c =
    let few : c.loop-rounds.rounds ≤ 256 = omega (arith, c.args.round.now.counted.few) in
    cuttable _ _ _ _ _ _ _ _ _ _ _ c.args.round.now.counted c.loop-rounds.invariant c.requires.0 few c.time_table-table.ensures c.latest_end-period.ensures c.late_counts-late.ensures

pub new_delays-current-requires : goal.new_delays-current-requires
new_delays-current-requires c =
    let few : c.loop-rounds.rounds ≤ 256 = omega (arith, c.args.round.now.counted.few) in
    delays_fit _ _ _ _ _ _ _ _ _ _ _ c.args.round.now.counted c.loop-rounds.invariant c.requires.0 few c.time_table-table.ensures c.latest_end-period.ensures c.late_counts-late.ensures

pub raised-retiming-requires : goal.raised-retiming-requires
raised-retiming-requires c =
    let few : c.loop-rounds.rounds ≤ 256 = omega (arith, c.args.round.now.counted.few) in
    let counted = c.args.round.now.counted in
    let u = c.loop-rounds.invariant in
    (counted.chain.few, λ v h. (retiming_few _ _ _ _ _ _ _ _ _ _ _ counted u c.requires.0 few v, late_small _ _ _ _ _ _ _ _ _ _ _ counted u c.requires.0 few c.time_table-table.ensures c.latest_end-period.ensures c.late_counts-late.ensures v))

pub loop-rounds-preserved : goal.loop-rounds-preserved
loop-rounds-preserved c =
    let few : c.loop-rounds.rounds ≤ 256 = omega (arith, c.args.round.now.counted.few) in
    raised_once _ _ _ _ _ _ _ _ _ _ _ c.args.round.now.counted c.loop-rounds.invariant c.requires.0 few c.time_table-table.ensures c.latest_end-period.ensures c.late_counts-late.ensures
    c.if-period-target.false c.raised-retiming.ensures c.new_delays-current.ensures c.reorder-order.ensures

pub returns : goal.returns
returns c = record { none = gave_up _ _ _ _ _ _ _ _ _ _ _ c.args.round.now.counted c.requires.1 c.loop-rounds.invariant c.loop-rounds-test.false }
