-- The sizes of an accepted plan's lists, from the planner's contract.
use Prim.Native.Nat.{ℕ, ◌-◌, ◌*◌, ◌<◌}
use mathlib.Core.Path.{◌≡◌, refl, ◌∙◌}
use mathlib.Core.List.{List, ◌++◌}
use mathlib.Core.Logic.{inl, inr}
use native.Mathlib.Omega.{arith}
use lib.ListN.{length}
use Rattle.std.specs.Prelude.{Result, Ok, Err, IfOk}
use Rattle.refusals.specs.declared.refusal.Refusal.{Refusal}
use Rattle.lists.specs.Front.{at}
use Rattle.lists.proofs.Order.{le_stable}
use Rattle.refusals.specs.First.{Passed, nth}
use Rattle.refusals.proofs.FirstLaws.{all_passed, front_passed}
use Rattle.dataflow.proofs.SumLaws.{sum_same}
use Rattle.sheet.specs.Format.{sheet_of}
use Rattle.sheet.specs.Read.{read_rows}
use Rattle.checks.specs.Check.{chain_rows}
use Rattle.checks.proofs.CheckLaws.{rows_chain}
use Rattle.planner.specs.declared.PlanNumbers.{PlanNumbers}
use Rattle.planner.specs.Fits.{Fits}
use Rattle.planner.specs.Plan.{room_row, retimed_rows, start_length, Worked, Planned, Plans}

module _ (s start round times : List ℕ) (r : PlanNumbers) (start' round' times' : List ℕ) (a : Plans s start round times (Ok r) start' round' times') where
  p : Planned (sheet_of s) start round times start' round' times' r
  p = a.answered.accepted

  worked : Worked (sheet_of s) r.q r.retiming r.back
  worked = record { counts = p.counts; retimes = p.promise.holds.retiming; backs = p.promise.holds.back }

  room_free : Passed (room_row (sheet_of s) (length start) (length round) (length times))
  room_free = all_passed a.answered.verdict refl 10 (omega arith)

  starts_are : r.starts ≡ start_length (sheet_of s).n r.q r.retiming r.back
  starts_are = p.starts ∙ sum_same (sheet_of s).n (at r.start) (λ v. r.back * at r.q v - at r.retiming v) (λ v h. omega (arith, p.firings.is v h))

  -- no row of reading refuses it
  pub read_free : (j : ℕ) → j < 5 → Passed (nth (read_rows s) j)
  read_free = front_passed (read_rows s) (chain_rows (sheet_of s) ++ retimed_rows (sheet_of s) (length start) (length round) (length times)) (λ j b. all_passed a.answered.verdict refl j (omega arith))

  pub fits : Fits r start' round' times'
  fits =
      let chain = rows_chain s read_free in
      record {
        stations = omega (arith, chain.few, p.stations);
        queues = omega (arith, chain.few_queues, p.queues);
        start_entries = rw p.start_only.long (le_stable (λ n. room_free 0 (r.q, r.retiming, r.back, worked, inl (omega (arith, starts_are)))));
        round_entries = rw p.round_only.long (le_stable (λ n. room_free 0 (r.q, r.retiming, r.back, worked, inr (inl (omega (arith, p.total))))));
        times_entries = rw p.times_only.long (le_stable (λ n. room_free 0 (r.q, r.retiming, r.back, worked, inr (inr (omega (arith, p.total))))));
      }

-- whatever the answer
pub answer_fits : {s start round times : List ℕ} (r : Result PlanNumbers Refusal) {start' round' times' : List ℕ} → Plans s start round times r start' round' times' → IfOk r (λ p. Fits p start' round' times')
answer_fits (Ok p) a = fits _ _ _ _ p _ _ _ a
answer_fits (Err e) a = tt
