-- Answers, put together row by row.
use Prim.Native.Nat.{ℕ, ◌<◌}
use mathlib.Core.Path.{◌≡◌, sym, ◌∙◌}
use mathlib.Core.List.{List, [], ◌∷◌, ◌++◌}
use lib.ListN.{length}
use native.Mathlib.Decide.{ℕ_discrete}
use Rattle.refusals.specs.First.{Row, Passed, nth, First}
use Rattle.refusals.specs.Answer.{Kind, Answers}
use Rattle.refusals.proofs.FirstLaws.{passed, none, append, unique}

module _ {R : Type 0} (kind : Kind R) {P : R → Type 0} {r : R} where
  -- a refusal is all that is said
  pub refuses : {rows : List Row} (number place : ℕ) → (number ≡ 0 → ⊥) → First rows number place → r ≡ kind.refusal number place → Answers kind rows P r
  refuses number place real v e = rw e (record {
    verdict = rw (kind.tells_number number place, kind.tells_place number place) v;
    accepted = λ z. absurd (real (sym (kind.tells_number number place) ∙ z));
    refused = λ z. rw (kind.tells_number number place, kind.tells_place number place);
  })

  -- no row is left, so it is what was asked for
  pub accepts : kind.number r ≡ 0 → kind.place r ≡ 0 → P r → Answers kind [] P r
  accepts number place p = record { verdict = rw (number, place) none; accepted = λ z. p; refused = λ z. absurd (z number) }

  -- a row that doesn't apply changes nothing
  pub passes : {row : Row} {rows : List Row} → Passed row → Answers kind rows P r → Answers kind (row ∷ rows) P r
  passes {row} p a = record { verdict = passed {r = row} p a.verdict; accepted = a.accepted; refused = a.refused }

  -- nor do several
  pub follows : (rows : List Row) {more : List Row} → ((j : ℕ) → j < length rows → Passed (nth rows j)) → Answers kind more P r → Answers kind (rows ++ more) P r
  follows rows p a = record { verdict = append rows p a.verdict; accepted = a.accepted; refused = a.refused }

-- no second answer, where no second one is what was asked for
pub answers_once : {R : Type 0} (kind : Kind R) {rows : List Row} {P : R → Type 0} {r r' : R} → Answers kind rows P r → Answers kind rows P r'
    → (kind.number r ≡ kind.number r' → kind.place r ≡ kind.place r' → P r → P r' → r ≡ r') → r ≡ r'
answers_once kind {r = r} {r' = r'} a a' once = go (ℕ_discrete (kind.number r) 0)
  where
    same : (kind.number r ≡ kind.number r') × (kind.place r ≡ kind.place r')
    same = unique a.verdict a'.verdict

    go : Dec (kind.number r ≡ 0) → r ≡ r'
    go (yes e) = once same.0 same.1 (a.accepted e) (a'.accepted (sym same.0 ∙ e))
    go (no n) = a.refused n ∙ (λ i. kind.refusal (same.0 i) (same.1 i)) ∙ sym (a'.refused (λ e. n (same.0 ∙ e)))
