-- 15, or the token.
use Prim.Native.Nat.{ℕ, ◌≤◌}
use mathlib.Core.Path.{◌≡◌}
use mathlib.Core.List.{[], ◌∷◌}
use native.Mathlib.Omega.{arith}
use Rattle.std.specs.Prelude.{Ok, Err}
use Rattle.lists.specs.Front.{at}
use Rattle.refusals.specs.declared.refusal.Refusal.TheVariants as refusals
use Rattle.refusals.specs.Table.{token}
use Rattle.refusals.specs.Refused.{Answered}
use Rattle.refusals.proofs.FirstLaws.{here_now}
use Rattle.refusals.proofs.RefusedLaws.{refused, given, passes}
use Rattle.dataflow.specs.Origin.{place_taken, token_at}
use Rattle.dataflow.specs.Refusals.{TokenFits}
use Rattle.dataflow.proofs.OriginLaws.{origin_is}
use Rattle.dataflow.proofs.TakenLaws.{origin_promise}
use Rattle.sheet.specs.declared.Sheet.{Sheet}
use Rattle.checks.specs.Check.{net_for, delays_for}
use Rattle.tokens.specs.declared.Origin.{Origin}
use Rattle.tokens.specs.Told.{Asks, told_as, token_row, Told}
use Rattle.dataflow.proofs.NumberLaws.{number_of_lem, number_is}

module _ {f : Sheet} {e g k : ℕ} where
  -- 15 is given where one of the bounds fails
  pub no_token : (Asks f e g k → ⊥) → Answered (token_row f e g k ∷ []) (Told f e g k) (Err refusals.Token)
  no_token h = refused refusals.Token (here_now token misses)
    where
      misses : TokenFits (net_for f []) e g k → ⊥
      misses t =
          let is = number_is f.m t.queue e t.is in
          h (record { queue = omega (arith, t.queue.1); firing_low = t.firing_low; firing_high = t.firing_high; token_low = t.token_low; token_high = rw (← is) t.token_high })

  -- the token at its place where none does
  pub tells : Asks f e g k → 1 ≤ at f.produced e → {r : Origin} → r ≡ told_as (token_at (at f.delay e) (at f.produced e) (place_taken (at f.consumed e) g k))
      → Answered (token_row f e g k ∷ []) (Told f e g k) (Ok r)
  tells a makes is =
      passes
      (λ place n. n (record { queue = (e, a.queue); is = number_of_lem f.m e a.queue; firing_low = a.firing_low; firing_high = a.firing_high; token_low = a.token_low; token_high = a.token_high }))
      (given _ (record {
        queue = (e, a.queue);
        is = number_of_lem f.m e a.queue;
        token = token_at (at f.delay e) (at f.produced e) (place_taken (at f.consumed e) g k);
        promise = origin_promise (net_for f []) (delays_for f []) (e, a.queue) g k _ a.token_low a.token_high (origin_is _ _ _ makes);
        told = is;
      }))
