-- No second answer meets a contract.
use Rattle.std.specs.Prelude.{ℕ, ◌≡◌, List, Result, Ok, Err}
use mathlib.Core.Path.{sym, subst, ◌∙◌}
use Rattle.refusals.specs.declared.refusal.Refusal.{Refusal}
use Rattle.refusals.proofs.RefusedLaws.{answered_once}
use Rattle.sheet.specs.declared.Sheet.{Sheet}
use Rattle.sheet.specs.Read.{Reads}
use Rattle.sheet.specs.Write.{Writes}

-- of reading
pub read_unique : (s : List ℕ) (r r' : Result Sheet Refusal) → Reads s r → Reads s r' → r ≡ r'
read_unique s r r' a a' = answered_once r r' a a' (λ f f' p p'. p ∙ sym p')

-- of writing, and no second buffer
pub write_unique : (f : Sheet) (before after after' : List ℕ) (r r' : Result ℕ Refusal) → Writes f before after r → Writes f before after' r' → (r ≡ r') × (after ≡ after')
write_unique f before after after' r r' p p' = (same, by r p (subst (Writes f before after') (sym same) p'))
  where
    same : r ≡ r'
    same = answered_once r r' p.judged p'.judged (λ x x' e e'. e ∙ sym e')

    by : (r : Result ℕ Refusal) → Writes f before after r → Writes f before after' r → after ≡ after'
    by (Ok length) p p' = p.accepted ∙ sym p'.accepted
    by (Err e) p p' = p.refused ∙ sym p'.refused
