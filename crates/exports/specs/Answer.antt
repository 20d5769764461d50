-- What may be a refusal, as an answer that tells it by numbers.
use Rattle.std.specs.Prelude.{Result, Ok, Err}
use Rattle.refusals.specs.declared.refusal.Refusal.{Refusal}
use Rattle.refusals.specs.Answer.{Kind}
use Rattle.refusals.specs.Refused.{number_of, place_of}

-- what was asked for, in this form; or the refusal's number and place, and nothing else
abbrev pub answer : {T R : Type 0} → Kind R → (T → R) → Result T Refusal → R
answer kind form (Ok x) = form x
answer kind form (Err e) = kind.refusal (number_of e) (place_of e)
