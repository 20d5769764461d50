-- What planning answers, as numbers.
use Rattle.std.specs.Prelude.{ℕ, refl, List, length, replicate, Result, Ok, Err}
use Rattle.refusals.specs.declared.refusal.Refusal.{Refusal}
use Rattle.refusals.specs.Answer.{Kind, Answers}
use Rattle.refusals.specs.Refused.{number_of, place_of}
use Rattle.sheet.specs.Format.{sheet_of}
use Rattle.planner.specs.declared.PlanNumbers.{PlanNumbers}
use Rattle.planner.specs.Plan.{plan_rows, Planned}
use Rattle.exports.specs.declared.planning.Planning.{Planning}

-- number and place, and every other number 0
abbrev pub refused_by : (number place : ℕ) → Planning
refused_by number place = record {
  number = number;
  place = place;
  n = 0;
  m = 0;
  period = 0;
  rounds = 0;
  back = 0;
  starts = 0;
  total = 0;
  tag = replicate 32 0;
  q = replicate 32 0;
  retiming = replicate 32 0;
  start = replicate 32 0;
  delay = replicate 64 0;
  room = replicate 64 0;
}

-- the plan that it tells
abbrev pub plan_in : Planning → PlanNumbers
plan_in a = record {
  n = a.n;
  m = a.m;
  period = a.period;
  rounds = a.rounds;
  back = a.back;
  starts = a.starts;
  total = a.total;
  tag = a.tag;
  q = a.q;
  retiming = a.retiming;
  start = a.start;
  delay = a.delay;
  room = a.room;
}

-- a plan, or a refusal's number and place and every other number 0
abbrev pub planning_of : Result PlanNumbers Refusal → Planning
planning_of (Ok p) = record {
  number = 0;
  place = 0;
  n = p.n;
  m = p.m;
  period = p.period;
  rounds = p.rounds;
  back = p.back;
  starts = p.starts;
  total = p.total;
  tag = p.tag;
  q = p.q;
  retiming = p.retiming;
  start = p.start;
  delay = p.delay;
  room = p.room;
}
planning_of (Err e) = refused_by (number_of e) (place_of e)

-- an answer, and what the lent buffers hold with it
pub record Left : Type 0 where
  pub answer : Planning
  pub start : List ℕ
  pub round : List ℕ
  pub times : List ℕ

-- a refusal says its number and place, and every buffer holds what it held
abbrev pub plan_kind : (start round times : List ℕ) → Kind Left
plan_kind start round times = record {
  number = λ x. x.answer.number;
  place = λ x. x.answer.place;
  refusal = λ number place. record { answer = refused_by number place; start = start; round = round; times = times };
  tells_number = λ number place. refl;
  tells_place = λ number place. refl;
}

-- planning a sheet's bytes with three lent buffers, and what the buffers hold then: the first of the rows that applies and nothing else, or a plan
abbrev pub TellsPlan : (s start round times : List ℕ) → Planning → (start' round' times' : List ℕ) → Type 0
TellsPlan s start round times r start' round' times' =
    Answers (plan_kind start round times) (plan_rows s (length start) (length round) (length times)) (λ x. Planned (sheet_of s) start round times x.start x.round x.times (plan_in x.answer))
    (record { answer = r; start = start'; round = round'; times = times' })
