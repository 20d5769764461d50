-- No second answer meets the contract of one move.
use Prim.Native.Nat.{ℕ}
use mathlib.Core.Path.{◌≡◌, sym, subst, ◌∙◌}
use mathlib.Core.List.{List}
use Rattle.std.specs.Prelude.{Result}
use lib.IntN.{ℤ}
use Rattle.refusals.specs.declared.refusal.Refusal.{Refusal}
use Rattle.refusals.proofs.RefusedLaws.{answered_once}
use Rattle.dataflow.specs.Promise.{MovePromise}
use Rattle.sheet.specs.declared.Sheet.{Sheet}
use Rattle.checks.specs.Check.{net_for}
use Rattle.checks.proofs.CheckLaws.{counts_of_once}
use Rattle.moves.specs.declared.Moved.{Moved}
use Rattle.moves.specs.Moving.{Goes, OneMove}

pub goes_once : (f : Sheet) (v i : ℕ) (r : ℤ) (a b : Moved) → Goes f v i r a → Goes f v i r b → a ≡ b
goes_once f v i r a b g h =
    let p = subst (λ (x : List ℕ). MovePromise (net_for f x) v i r b.copy b.shift) (counts_of_once f h.q g.q h.counts g.counts) h.promise in
    let copy = g.promise.copy_is ∙ sym p.copy_is in
    let shift = g.promise.shift_is ∙ sym p.shift_is in
    λ k. record { copy = copy k; shift = shift k }

pub one_move_unique : (s : List ℕ) (v i : ℕ) (r : ℤ) (a b : Result Moved Refusal) → OneMove s v i r a → OneMove s v i r b → a ≡ b
one_move_unique s v i r a b p p' = answered_once a b p p' (goes_once _ v i r)
