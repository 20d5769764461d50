-- No second result meets a contract. A part's name is an equation.
use Rattle.std.proofs.Common.{ℕ, ◌≡◌, sym, ap, ◌∙◌, List, Ok, ℤ}
use native.Mathlib.Decide.{ℕ_discrete}
use Rattle.refusals.specs.First.{free}
use Rattle.refusals.proofs.AnswerLaws.{answers_once}
use Rattle.refusals.proofs.FirstLaws.{all_passed, unique}
use Rattle.sheet.specs.declared.Sheet.{Sheet}
use Rattle.planner.specs.Plan.{Sized, Plans}
use Rattle.planner.proofs.Unique.{plan_unique}
use Rattle.moves.proofs.Unique.{goes_once}
use Rattle.hand.proofs.Unique.{tried_once}
use Rattle.tokens.proofs.Unique.{origin_of_unique}
use Rattle.exports.specs.declared.reading.Reading.{Reading}
use Rattle.exports.specs.declared.writing.Written.{Written}
use Rattle.exports.specs.declared.planning.Planning.{Planning}
use Rattle.exports.specs.declared.moving.Moved.{Moved}
use Rattle.exports.specs.declared.checking.HandPeriod.{HandPeriod}
use Rattle.exports.specs.declared.told.TokenOrigin.{TokenOrigin}
use Rattle.exports.specs.Reading.{read_kind, TellsSheet}
use Rattle.exports.specs.Writing.{written_kind, TellsLength}
use Rattle.exports.specs.Planning.{plan_in, Left, plan_kind, TellsPlan}
use Rattle.exports.specs.Moving.{moved_kind, TellsMove}
use Rattle.exports.specs.Checking.{hand_kind, TellsPeriod}
use Rattle.exports.specs.Told.{numbers_of, TellsNumbers}

pub sheet_unique : (s : List ℕ) (a b : Reading) → TellsSheet s a → TellsSheet s b → a ≡ b
sheet_unique s a b t t' = answers_once read_kind t t' (λ number place p p' i. record { number = number i; place = place i; sheet = (p ∙ sym p') i })

pub length_unique : (f : Sheet) (before after after' : List ℕ) (a b : Written) → TellsLength f before after a → TellsLength f before after' b → (a ≡ b) × (after ≡ after')
length_unique f before after after' a b t t' = (same, by (ℕ_discrete a.number 0))
  where
    same : a ≡ b
    same = answers_once written_kind t.judged t'.judged (λ number place p p' i. record { number = number i; place = place i; length = (p ∙ sym p') i })

    number : a.number ≡ b.number
    number i = (same i).number

    by : Dec (a.number ≡ 0) → after ≡ after'
    by (yes z) = t.accepted z ∙ sym (t'.accepted (sym number ∙ z))
    by (no n) = t.refused n ∙ sym (t'.refused (λ z. n (number ∙ z)))

-- two plans, and what the buffers hold with each
pub plan_told_unique : (s start round times : List ℕ) (a b : Planning) → Sized (plan_in a) → Sized (plan_in b) → (start' round' times' start'' round'' times'' : List ℕ)
    → TellsPlan s start round times a start' round' times' → TellsPlan s start round times b start'' round'' times''
    → ◌≡◌ {A = Left} (record { answer = a; start = start'; round = round'; times = times' }) (record { answer = b; start = start''; round = round''; times = times'' })
plan_told_unique s start round times a b z z' start' round' times' start'' round'' times'' t t' = go (ℕ_discrete a.number 0)
  where
    same : (a.number ≡ b.number) × (a.place ≡ b.place)
    same = unique t.verdict t'.verdict

    go : Dec (a.number ≡ 0) → ◌≡◌ {A = Left} (record { answer = a; start = start'; round = round'; times = times' }) (record { answer = b; start = start''; round = round''; times = times'' })
    go (yes e) =
        let e' = sym same.0 ∙ e in
        let p : Plans s start round times (Ok (plan_in a)) start' round' times' = record { answered = record { verdict = free (all_passed t.verdict e); accepted = t.accepted e }; kept = tt } in
        let p' : Plans s start round times (Ok (plan_in b)) start'' round'' times'' = record { answered = record { verdict = free (all_passed t'.verdict e'); accepted = t'.accepted e' }; kept = tt } in
        let u = plan_unique s start round times (Ok (plan_in a)) (Ok (plan_in b)) z z' start' round' times' start'' round'' times'' p p' in
        let plan : plan_in a ≡ plan_in b = let r = u.result in cc in
        λ i. record {
          answer = record {
            number = same.0 i;
            place = same.1 i;
            n = (plan i).n;
            m = (plan i).m;
            period = (plan i).period;
            rounds = (plan i).rounds;
            back = (plan i).back;
            starts = (plan i).starts;
            total = (plan i).total;
            tag = (plan i).tag;
            q = (plan i).q;
            retiming = (plan i).retiming;
            start = (plan i).start;
            delay = (plan i).delay;
            room = (plan i).room;
          };
          start = u.start i;
          round = u.round i;
          times = u.times i;
        }
    go (no n) = t.refused n ∙ (λ i. (plan_kind start round times).refusal (same.0 i) (same.1 i)) ∙ sym (t'.refused (λ e. n (same.0 ∙ e)))

pub move_unique : (s : List ℕ) (v i : ℕ) (r : ℤ) (a b : Moved) → TellsMove s v i r a → TellsMove s v i r b → a ≡ b
move_unique s v i r a b t t' =
    answers_once moved_kind t t' (λ number place g g'.
    let e = goes_once _ v i r _ _ g g' in
    λ k. record { number = number k; place = place k; copy = (e k).copy; shift = (e k).shift })

pub period_unique : (s : List ℕ) (l : List ℤ) (a b : HandPeriod) → TellsPeriod s l a → TellsPeriod s l b → a ≡ b
period_unique s l a b t t' =
    answers_once hand_kind t t' (λ number place p p'. let e = tried_once _ l _ _ p p' in λ i. record { number = number i; place = place i; period = e i })

pub numbers_unique : (s : List ℕ) (e g k : ℕ) (a b : TokenOrigin) → TellsNumbers s e g k a → TellsNumbers s e g k b → a ≡ b
numbers_unique s e g k a b t t' = t.told ∙ ap numbers_of (origin_of_unique s e g k _ _ t.tells t'.tells) ∙ sym t'.told
