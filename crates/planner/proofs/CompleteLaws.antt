-- Both lists of a plan can be completed.
use Prim.Native.Nat.{ℕ, ◌-◌, ◌*◌}
use mathlib.Core.Path.{sym, subst}
use mathlib.Core.List.{List}
use Rattle.lists.specs.Front.{at}
use Rattle.dataflow.specs.Lists.{RoundList}
use Rattle.dataflow.specs.Retiming.{whole}
use Rattle.dataflow.specs.Sheet.{Below}
use Rattle.dataflow.proofs.ListLaws.{list_same}
use Rattle.dataflow.proofs.NotStuckLaws.{round_list_completes, start_list_completes}
use Rattle.dataflow.proofs.WholeLaws.{retimed_is}
use Rattle.chain.specs.Chain.{delays_of}
use Rattle.checks.specs.declared.Checked.{Checked}
use Rattle.checks.specs.Check.{net_for, delays_for, sheet_in}
use Rattle.checks.proofs.CheckLaws.{ready_not_stuck}
use Rattle.search.specs.declared.Found.{Found}
use Rattle.search.proofs.FoundLaws.{new_delays_lem}
use Rattle.planner.specs.Lists.{Completes}
use Rattle.planner.specs.Making.{Retimed, Begun}
use Rattle.planner.proofs.WorkLaws.{W, retimes, backs, firings_are}

-- the round list, from the new delays
pub round_completes : {c : Checked} {r : Found} → Retimed c r
    → Completes c.round.chain.n c.round.chain.m c.round.chain.source c.round.chain.sink c.round.chain.produced c.round.chain.consumed r.delay c.round.q
round_completes {c} {r} h =
    let f = sheet_in c in
    let G = net_for f c.round.q in
    let d = delays_for f c.round.q in
    let l = round_list_completes G (W h) d (ready_not_stuck h.ready) (whole (at r.retiming)) (retimes h).retiming.serves.legal in
    let new = retimed_is G d (at r.retiming) (delays_of f.m r.delay) (new_delays_lem c.round.counted (retimes h)) in
    (f.time, c.round.q, l.0, subst (λ (D : Below f.m → ℕ). RoundList G D l.0) new l.1)

-- the start list, from the sheet's delays
pub start_completes : {c : Checked} {r : Found} {back : ℕ} {firings : List ℕ} {starts : ℕ} → Begun c r back firings starts
    → Completes c.round.chain.n c.round.chain.m c.round.chain.source c.round.chain.sink c.round.chain.produced c.round.chain.consumed c.delay firings
start_completes {c} {r} {back} {firings} b =
    let f = sheet_in c in
    let G = net_for f c.round.q in
    let h = b.retimed in
    let l = start_list_completes G (W h) (delays_for f c.round.q) (ready_not_stuck h.ready) (at r.retiming) (retimes h).retiming.serves.legal back (backs h b.backs).covers in
    (f.time, c.round.q, l.0, list_same G (λ v. back * at c.round.q v - at r.retiming v) (at firings) (λ v k. sym (firings_are h b.backs b.fires v k)) l.1)
