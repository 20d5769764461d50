-- Buffers of 65,536, 256 and 256 entries are never too short.
use Prim.Native.Nat.{ℕ, ◌-◌, ◌*◌, ◌≤◌, ◌<◌}
use mathlib.Core.Path.{◌≡◌, sym, subst}
use mathlib.Core.List.{List, [], ◌++◌}
use mathlib.Core.Logic.{⊎_elim}
use native.Mathlib.Nat.{mul-le-mul}
use native.Mathlib.Omega.{arith}
use lib.ListN.{length}
use Rattle.std.specs.Prelude.{Result, Err}
use Rattle.refusals.specs.declared.refusal.Refusal.{Refusal}
use Rattle.refusals.specs.declared.refusal.Refusal.TheVariants.{Room}
use Rattle.refusals.specs.Refused.{number_in, place_in}
use Rattle.lists.specs.Front.{at}
use Rattle.lists.proofs.Order.{order, le_stable}
use Rattle.refusals.specs.Table.{number}
use Rattle.refusals.specs.First.{Passed, nth, First}
use Rattle.refusals.proofs.FirstLaws.{Given, refusal_given, front_passed}
use Rattle.dataflow.specs.Net.{Sound}
use Rattle.dataflow.specs.Counts.{sum}
use Rattle.dataflow.specs.Refusals.{counts_row}
use Rattle.dataflow.specs.Retiming.{whole}
use Rattle.dataflow.specs.Stuck.{RoundFires}
use Rattle.dataflow.proofs.Below.{upto}
use Rattle.dataflow.proofs.EndLaws.{plan_exists, ends_at_plan}
use Rattle.dataflow.proofs.PlanLaws.{search_bound}
use Rattle.dataflow.proofs.SearchLaws.{rounds_bound}
use Rattle.dataflow.proofs.StuckLaws.{fires_or_stuck}
use Rattle.dataflow.proofs.SumLaws.{sum_above, sum_le, sum_times, sum_less}
use Rattle.sheet.specs.declared.Sheet.{Sheet}
use Rattle.sheet.specs.Format.{sheet_of}
use Rattle.sheet.specs.Read.{read_rows}
use Rattle.checks.specs.Check.{net_for, delays_for, CountsOf, chain_rows}
use Rattle.checks.proofs.CheckLaws.{any_counts, rows_chain, rows_sound}
use Rattle.planner.specs.declared.PlanNumbers.{PlanNumbers}
use Rattle.planner.specs.Plan.{Worked, start_length, TooShort, retimed_rows, plan_rows, Plans}

-- where 7 isn't given the counts add up to at most 256
counts_few : (f : Sheet) → Passed (counts_row (net_for f [])) → (q : List ℕ) → CountsOf f q → sum f.n (at q) ≤ 256
counts_few f free q c =
    le_stable (λ many.
    free 0 (λ x b few.
    let l = sum_less f.n x (at q) (omega arith) in
    omega (arith, l.2, (any_counts f q [] (at q) c.counts).least x b l.0 l.1)))

module _ (f : Sheet) (q : List ℕ) (W : Sound (net_for f q)) (some : 1 ≤ f.n) (few : sum f.n (at q) ≤ 256) (fires : RoundFires (net_for f q) (delays_for f q)) where
  -- the start list has at most 65,280 entries
  start_few : (retiming : List ℕ) (back : ℕ) → Worked f q retiming back → start_length f.n q retiming back ≤ 65280
  start_few retiming back w =
      let G = net_for f q in
      let x = plan_exists G W (delays_for f q) f.target fires (whole (at retiming)) w.retimes.serves in
      let plan = ends_at_plan G W (delays_for f q) f.target x.2 in
      let low : 1 ≤ sum f.n (at q) = omega (arith, sum_above f.n (at q) 0 some, W.counts.positive 0 some) in
      let rounds = rounds_bound G W (delays_for f q) f.target x.2 low in
      let covers = w.backs.least x.0 (λ v h.
      omega (arith, w.retimes.least x.1 plan.serves v h, search_bound G W (delays_for f q) f.target x.2.searched v)) in
      let most : back ≤ 255 = omega arith in
      omega (arith, sum_le f.n (λ v. back * at q v - at retiming v) (λ v. back * at q v) (λ v. omega arith), sum_times f.n back (at q), mul-le-mul most few)

module _ (s : List ℕ) (x y z place : ℕ) (g : Given (plan_rows s x y z) 11 place) where
  -- no row of planning but the last is 11
  no_other : (i : ℕ) → i < 10 → number (nth (plan_rows s x y z) i).refusal ≡ 11 → ⊥
  no_other = upto (λ i. number (nth (plan_rows s x y z) i).refusal ≡ 11 → ⊥) 10 ((((((((((tt, λ e. omega arith), λ e. omega arith), λ e. omega arith), λ e. omega arith), λ e. omega arith), λ e. omega arith), λ e. omega arith), λ e. omega arith), λ e. omega arith), λ e. omega arith)

  last : g.row ≡ 10
  last = order g.row 10 (λ lt. absurd (no_other g.row lt (sym g.is))) (λ eq. eq) (λ gt. absurd (omega (arith, g.here)))

  earlier : (j : ℕ) → j < 10 → Passed (nth (plan_rows s x y z) j)
  earlier j b = g.before j (omega (arith, last))

  read_free : (j : ℕ) → j < 5 → Passed (nth (read_rows s) j)
  read_free = front_passed (read_rows s) (chain_rows (sheet_of s) ++ retimed_rows (sheet_of s) x y z) (λ j b. earlier j (omega arith))

  short : (q : List ℕ) × (retiming : List ℕ) × (back : ℕ) × Worked (sheet_of s) q retiming back × TooShort (sheet_of s).n q retiming back x y z
  short = rw last at g.applies

  pub room_enough : 65280 ≤ x → 256 ≤ y → 256 ≤ z → ⊥
  room_enough hx hy hz =
      let f = sheet_of s in
      let q = short.0 in
      let c = short.3.counts in
      let W = rows_sound s read_free q c in
      let few = counts_few f (earlier 7 (omega arith)) q c in
      let fires : RoundFires (net_for f q) (delays_for f q) = ⊎_elim (λ h. h) (λ h. absurd (earlier 8 (omega arith) 0 (q, c, h))) (fires_or_stuck (net_for f q) W (delays_for f q)) in
      ⊎_elim
      (λ h. omega (arith, start_few f q W (rows_chain s read_free).some few fires short.1 short.2 short.3))
      (λ h. ⊎_elim (λ k. omega arith) (λ k. omega arith) h)
      short.4

-- so a program that lends as many never says 11
pub never_room : (s start round times : List ℕ) (r : Result PlanNumbers Refusal) (start' round' times' : List ℕ) → Plans s start round times r start' round' times'
    → 65280 ≤ length start → 256 ≤ length round → 256 ≤ length times → r ≡ Err Room → ⊥
never_room s start round times r start' round' times' a hx hy hz e =
    let v = subst (λ (x : Result PlanNumbers Refusal). First (plan_rows s (length start) (length round) (length times)) (number_in x) (place_in x)) e a.answered.verdict in
    room_enough s (length start) (length round) (length times) 0 (refusal_given v (λ n. omega arith)) hx hy hz
