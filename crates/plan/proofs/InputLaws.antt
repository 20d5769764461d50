-- What was taken of an input is planned as the input is.
use Prim.Native.Nat.{ℕ, ◌<◌}
use mathlib.Core.Path.{sym, subst}
use mathlib.Core.List.{List}
use Rattle.std.specs.Prelude.{Result}
use Rattle.refusals.specs.declared.refusal.Refusal.{Refusal}
use Rattle.planner.specs.declared.PlanNumbers.{PlanNumbers}
use Rattle.planner.specs.Plan.{Plans}
use Rattle.planner.specs.Lent.{PlansLent}
use Rattle.planner.proofs.LongLaws.{front_plans}
use Rattle.plan.specs.Input.{PlansInput}

pub plans_input : {room : ℕ} {s start round times : List ℕ} {r : Result PlanNumbers Refusal} {start' round' times' : List ℕ} → 788 < room → PlansLent s start round times r start' round' times'
    → PlansInput room s start round times r start' round' times'
plans_input {room} {s} {start} {round} {times} {r} {start'} {round'} {times'} enough a = record {
  taken = a;
  whole = λ input e. front_plans input room enough (subst (λ (x : List ℕ). Plans x start round times r start' round' times') (sym e) a.plans);
}
