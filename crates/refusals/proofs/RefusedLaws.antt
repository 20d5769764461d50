-- Answers that may be a refusal, put together row by row.
use Rattle.std.proofs.Common.{ℕ, ◌<◌, ◌≡◌, refl, sym, ap, ◌∙◌, List, [], ◌∷◌, ◌++◌, length, Result, Ok, Err, arith}
use Rattle.refusals.specs.declared.refusal.Refusal.{Refusal}
use Rattle.refusals.specs.declared.refusal.Refusal.TheVariants.{Short, Version, Counts, Layout, Field, Apart, CountsFail, Stuck, NoRetiming, Room, Hand, Negative, Slow, Token, Unbalanced}
use Rattle.refusals.specs.Table as table
use Rattle.refusals.specs.First.{Row, Passed, nth, First}
use Rattle.refusals.specs.Answer.{Kind, Answers}
use Rattle.refusals.specs.Refused.{number_of, place_of, kind_of, Answered}
use Rattle.refusals.proofs.TableLaws.{number_within, number_once}
use Rattle.refusals.proofs.FirstLaws.{passed, none, append, unique}

-- a refusal's number is not 0
pub number_real : (e : Refusal) → number_of e ≡ 0 → ⊥
number_real e z = let w = number_within (kind_of e) in omega arith

-- the refusal of a row of the table, with a place
abbrev refusal_with : table.Refusal → (place : ℕ) → Refusal
refusal_with table.short p = Short
refusal_with table.version p = Version
refusal_with table.counts p = Counts
refusal_with table.layout p = Layout
refusal_with table.field p = Field p
refusal_with table.apart p = Apart
refusal_with table.counts_fail p = CountsFail
refusal_with table.stuck p = Stuck
refusal_with table.no_retiming p = NoRetiming
refusal_with table.room p = Room
refusal_with table.hand p = Hand
refusal_with table.negative p = Negative p
refusal_with table.slow p = Slow
refusal_with table.token p = Token
refusal_with table.unbalanced p = Unbalanced p

again : (e : Refusal) → refusal_with (kind_of e) (place_of e) ≡ e
again Short = refl
again Version = refl
again Counts = refl
again Layout = refl
again (Field queue) = refl
again Apart = refl
again CountsFail = refl
again Stuck = refl
again NoRetiming = refl
again Room = refl
again Hand = refl
again (Negative queue) = refl
again Slow = refl
again Token = refl
again (Unbalanced queue) = refl

-- number and place tell the refusal
pub refusal_once : (e e' : Refusal) → number_of e ≡ number_of e' → place_of e ≡ place_of e' → e ≡ e'
refusal_once e e' n p = sym (again e) ∙ (λ i. refusal_with (number_once (kind_of e) (kind_of e') n i) (p i)) ∙ again e'

module _ {T : Type 0} {P : T → Type 0} where
  -- a refusal is all that is said
  pub refused : {rows : List Row} (e : Refusal) → First rows (number_of e) (place_of e) → Answered rows P (Err e)
  refused e v = record { verdict = v; accepted = tt }

  -- no row is left, so it is what was asked for
  pub given : (x : T) → P x → Answered [] P (Ok x)
  given x p = record { verdict = none; accepted = p }

  -- a row that doesn't apply changes nothing
  pub passes : {row : Row} {rows : List Row} {r : Result T Refusal} → Passed row → Answered rows P r → Answered (row ∷ rows) P r
  passes {row} p a = record { verdict = passed {r = row} p a.verdict; accepted = a.accepted }

  -- nor do several
  pub follows : (rows : List Row) {more : List Row} {r : Result T Refusal} → ((j : ℕ) → j < length rows → Passed (nth rows j)) → Answered more P r → Answered (rows ++ more) P r
  follows rows p a = record { verdict = append rows p a.verdict; accepted = a.accepted }

  -- no second answer, where no second one is what was asked for
  pub answered_once : {rows : List Row} (r r' : Result T Refusal) → Answered rows P r → Answered rows P r' → ((x x' : T) → P x → P x' → x ≡ x') → r ≡ r'
  answered_once (Ok x) (Ok x') a a' once = ap Ok (once x x' a.accepted a'.accepted)
  answered_once (Ok x) (Err e) a a' once = absurd (number_real e (sym ((unique a.verdict a'.verdict).0)))
  answered_once (Err e) (Ok x) a a' once = absurd (number_real e ((unique a.verdict a'.verdict).0))
  answered_once (Err e) (Err e') a a' once = let s = unique a.verdict a'.verdict in ap Err (refusal_once e e' s.0 s.1)

  -- the answer in another form, which tells a refusal by its number and its place
  pub told : {R : Type 0} (kind : Kind R) {Q : R → Type 0} {rows : List Row} (f : T → R) → ((x : T) → kind.number (f x) ≡ 0) → ((x : T) → kind.place (f x) ≡ 0)
      → ((x : T) → P x → Q (f x)) → (r : Result T Refusal) (r' : R) → ((x : T) → r ≡ Ok x → r' ≡ f x) → ((e : Refusal) → r ≡ Err e → r' ≡ kind.refusal (number_of e) (place_of e)) → Answered rows P r → Answers kind rows Q r'
  told kind f number place holds (Ok x) r' ok err a = rw (ok x refl) (record {
    verdict = rw (number x, place x) a.verdict;
    accepted = λ _. holds x a.accepted;
    refused = λ z. absurd (z (number x));
  })
  told kind f number place holds (Err e) r' ok err a = rw (err e refl) (record {
    verdict = rw (kind.tells_number (number_of e) (place_of e), kind.tells_place (number_of e) (place_of e)) a.verdict;
    accepted = λ z. absurd (number_real e (sym (kind.tells_number (number_of e) (place_of e)) ∙ z));
    refused = λ z. rw (kind.tells_number (number_of e) (place_of e), kind.tells_place (number_of e) (place_of e));
  })
