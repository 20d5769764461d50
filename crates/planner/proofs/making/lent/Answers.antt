use mathlib.Core.Logic.{inl, inr}
use Rattle.refusals.specs.declared.refusal.Refusal.TheVariants.{Room}
use Rattle.planner.proofs.StandLaws.{stand}
use Rattle.planner.proofs.AnswerLaws.{answer_refused, answer_planned}
use Rattle.planner.proofs.RowLaws.{short_refused}
use Rattle.planner.proofs.making.lent.Goals as goal
use Rattle.planner.proofs.making.lent.Goals.{then-start-starts-via-then-start-starts, then-start-starts-via-else-start-starts+then-round-total, then-start-starts-via-else-start-starts+else-round-total+then-times-total}

pub returns-then-start-starts : goal.returns-then-start-starts
returns-then-start-starts c =
    answer_refused Room
    (short_refused c.requires _ _ _
    (elim c.then-start-starts.branch [
      | then-start-starts-via-then-start-starts w ↦ inl w.if-start-starts.true
      | then-start-starts-via-else-start-starts+then-round-total w ↦ inr (inl w.if-round-total.true)
      | then-start-starts-via-else-start-starts+else-round-total+then-times-total w ↦ inr (inr w.if-times-total.true)
    ]))

pub rooms-room-requires : goal.rooms-room-requires
rooms-room-requires c = stand c.requires c.write.ensures

pub returns : goal.returns
returns c =
    answer_planned c.requires c.write.ensures (record { start_room = c.if-start-starts.false; round_room = c.if-round-total.false; times_room = c.if-times-total.false }) c.rooms-room.ensures c.shown.ensures
