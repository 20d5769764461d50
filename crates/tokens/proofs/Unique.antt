-- No second result meets the contract.
use Prim.Native.Nat.{ℕ}
use mathlib.Core.Path.{◌≡◌, sym, ap, subst, ◌∙◌}
use mathlib.Core.List.{List, []}
use Rattle.std.specs.Prelude.{Result}
use Rattle.refusals.specs.declared.refusal.Refusal.{Refusal}
use Rattle.refusals.proofs.RefusedLaws.{answered_once}
use Rattle.dataflow.specs.Promise.{OriginPromise}
use Rattle.dataflow.proofs.TakenLaws.{origin_unique}
use Rattle.sheet.specs.declared.Sheet.{Sheet}
use Rattle.checks.specs.Check.{net_for, delays_for}
use Rattle.tokens.specs.declared.Origin.{Origin}
use Rattle.tokens.specs.Told.{told_as, Told, TellsToken}

-- one queue has the number, and it has one token there
told_once : {f : Sheet} {e g k : ℕ} {r r' : Origin} → Told f e g k r → Told f e g k r' → r ≡ r'
told_once {f} {e} {g} {k} t t' =
    let same : t'.queue ≡ t.queue = cc in
    let o = subst (λ (q : (net_for f []).Queue). OriginPromise (net_for f []) (delays_for f []) q g k t'.token) same t'.promise in
    t.told ∙ ap told_as (origin_unique (net_for f []) (delays_for f []) t.queue g k t.token t'.token t.promise o) ∙ sym t'.told

pub origin_of_unique : (s : List ℕ) (e g k : ℕ) (r r' : Result Origin Refusal) → TellsToken s e g k r → TellsToken s e g k r' → r ≡ r'
origin_of_unique s e g k r r' a a' = answered_once r r' a a' (λ x x' t t'. told_once t t')
