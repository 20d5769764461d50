-- No second answer meets the hand check's contract.
use Prim.Native.Nat.{ℕ}
use mathlib.Core.Path.{◌≡◌, subst}
use mathlib.Core.List.{List}
use Rattle.std.specs.Prelude.{Result}
use lib.IntN.{ℤ}
use Rattle.refusals.specs.declared.refusal.Refusal.{Refusal}
use Rattle.refusals.proofs.RefusedLaws.{answered_once}
use Rattle.dataflow.specs.Promise.{HandPromise}
use Rattle.dataflow.specs.Retiming.{by_hand}
use Rattle.dataflow.proofs.PathLaws.{period_once}
use Rattle.sheet.specs.declared.Sheet.{Sheet}
use Rattle.checks.specs.Check.{net_for, delays_for}
use Rattle.checks.proofs.CheckLaws.{counts_of_once}
use Rattle.hand.specs.Hand.{Tried, HandChecks}

pub tried_once : (f : Sheet) (l : List ℤ) (a b : ℕ) → Tried f l a → Tried f l b → a ≡ b
tried_once f l a b t u =
    let p = subst (λ (x : List ℕ). HandPromise (net_for f x) (delays_for f x) f.target (by_hand l) b) (counts_of_once f u.q t.q u.counts t.counts) u.promise in
    period_once _ _ a b t.promise.period p.period

pub hand_period_unique : (s : List ℕ) (l : List ℤ) (a b : Result ℕ Refusal) → HandChecks s l a → HandChecks s l b → a ≡ b
hand_period_unique s l a b p p' = answered_once a b p p' (tried_once _ l)
