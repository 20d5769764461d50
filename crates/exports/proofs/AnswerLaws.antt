-- From the library's results to answers that tell a refusal by numbers.
use Rattle.std.proofs.Common.{ℕ, ◌≡◌, refl, ap, ◌∙◌, List, Result, Ok, Err}
use Rattle.refusals.specs.declared.refusal.Refusal.{Refusal}
use Rattle.refusals.specs.First.{Row}
use Rattle.refusals.specs.Answer.{Kind, Answers}
use Rattle.refusals.specs.Refused.{Answered}
use Rattle.refusals.proofs.RefusedLaws.{number_real, told}
use Rattle.planner.specs.declared.PlanNumbers.{PlanNumbers}
use Rattle.planner.specs.Plan.{Plans}
use Rattle.exports.specs.Answer.{answer}
use Rattle.exports.specs.Planning.{planning_of, TellsPlan}

-- whatever the kind of answer, where its form tells no refusal
pub answered_as : {T R : Type 0} (kind : Kind R) (form : T → R) → ((x : T) → kind.number (form x) ≡ 0) → ((x : T) → kind.place (form x) ≡ 0)
    → {P : T → Type 0} {Q : R → Type 0} → ((x : T) → P x → Q (form x)) → {rows : List Row} {r : Result T Refusal} {a : R} → a ≡ answer kind form r → Answered rows P r → Answers kind rows Q a
answered_as kind form number place holds {r = r} e =
    told kind form number place holds r _ (λ x i. e ∙ ap (answer kind form) i) (λ x i. e ∙ ap (answer kind form) i)

-- a plan, with what the lent buffers hold
pub plan_told : {s start round times start' round' times' : List ℕ} (r : Result PlanNumbers Refusal) → Plans s start round times r start' round' times' → TellsPlan s start round times (planning_of r) start' round' times'
plan_told (Ok p) a = record { verdict = a.answered.verdict; accepted = λ z. a.answered.accepted; refused = λ z. absurd (z refl) }
plan_told (Err e) a = record {
  verdict = a.answered.verdict;
  accepted = λ z. absurd (number_real e z);
  refused = λ z i. record { answer = planning_of (Err e); start = a.kept.0 i; round = a.kept.1.0 i; times = a.kept.1.1 i };
}
