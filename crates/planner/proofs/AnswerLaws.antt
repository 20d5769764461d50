-- The planner's answers, put together check by check.
use Rattle.std.proofs.Common.{ℕ, ◌≡◌, refl, List, [], ◌∷◌, length, take, Result, Ok, Err}
use Rattle.refusals.specs.declared.refusal.Refusal.{Refusal}
use Rattle.refusals.specs.First.{Row, Passed, First}
use Rattle.refusals.specs.Refused.{number_of, place_of}
use Rattle.refusals.proofs.RefusedLaws.{refused, given, passes}
use Rattle.sheet.specs.declared.Sheet.{Sheet}
use Rattle.checks.specs.declared.Checked.{Checked}
use Rattle.checks.specs.Check.{Checks, sheet_in}
use Rattle.checks.proofs.CheckLaws.{check_refuses, check_follows}
use Rattle.search.specs.declared.Found.{Found}
use Rattle.planner.specs.declared.PlanNumbers.{PlanNumbers}
use Rattle.planner.specs.Making.{Begun, HasRoom, Wrote, Roomed, numbers_of}
use Rattle.planner.specs.Plan.{room_row, Planned, AnswersPlan, retimed_rows, Plans}
use Rattle.planner.proofs.HoldLaws.{planned}
use Rattle.planner.proofs.RowLaws.{room_passed}

module _ {f : Sheet} {start round times : List ℕ} where
  -- a refusal writes to no buffer
  pub answer_refused : {rows : List Row} (e : Refusal) → First rows (number_of e) (place_of e) → AnswersPlan rows f start round times (Err e) start round times
  answer_refused e v = record { answered = refused e v; kept = (refl, (refl, refl)) }

  -- a row that doesn't apply changes nothing
  pub answer_passes : {row : Row} {rows : List Row} {r : Result PlanNumbers Refusal} {start' round' times' : List ℕ} → Passed row → AnswersPlan rows f start round times r start' round' times'
      → AnswersPlan (row ∷ rows) f start round times r start' round' times'
  answer_passes p a = record { answered = passes p a.answered; kept = a.kept }

-- the plan
pub answer_planned : {c : Checked} {r : Found} {back : ℕ} {firings : List ℕ} {starts : ℕ} {start round times start' round' times' room : List ℕ} {p : PlanNumbers} → Begun c r back firings starts
    → Wrote c r firings start round times start' round' times' → HasRoom c starts start round times → Roomed c (take starts start') (take c.round.total round') room → p ≡ numbers_of c r back firings starts room
    → AnswersPlan (room_row (sheet_in c) (length start) (length round) (length times) ∷ []) (sheet_in c) start round times (Ok p) start' round' times'
answer_planned {start = start} {round} {times} {p = p} b w h s is = record {
  answered = passes (room_passed b (length start) (length round) (length times) h.start_room h.round_room h.times_room) (given p (planned b w h s is));
  kept = tt;
}

-- planning begins with the checks
module _ {s start round times : List ℕ} where
  pub check_refused : {e : Refusal} → Checks s (Err e) → Plans s start round times (Err e) start round times
  check_refused {e} k = record { answered = check_refuses k (λ (f : Sheet). retimed_rows f (length start) (length round) (length times)); kept = (refl, (refl, refl)) }

  pub check_passed : {c : Checked} → Checks s (Ok c) → {r : Result PlanNumbers Refusal} {start' round' times' : List ℕ}
      → AnswersPlan (retimed_rows (sheet_in c) (length start) (length round) (length times)) (sheet_in c) start round times r start' round' times' → Plans s start round times r start' round' times'
  check_passed k {start' = start'} {round'} {times'} a = record {
    answered = check_follows k (λ (f : Sheet). retimed_rows f (length start) (length round) (length times)) (λ (f : Sheet). Planned f start round times start' round' times') a.answered;
    kept = a.kept;
  }
