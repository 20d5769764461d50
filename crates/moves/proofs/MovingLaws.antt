-- One move, by the row of the table and by the definitions.
use Prim.Native.Nat.{ℕ, ◌+◌, ◌-◌, ◌≤◌}
use mathlib.Core.Path.{◌≡◌, refl, subst}
use mathlib.Core.List.{List, [], ◌∷◌}
use Rattle.std.specs.Prelude.{Ok, Err}
use native.Mathlib.Omega.{arith}
use lib.IntN.{ℤ, pos, negsuc, neg_ℤ, ◌+ℤ◌, ◌-ℤ◌}
use Rattle.lists.specs.Front.{at}
use Rattle.refusals.specs.declared.refusal.Refusal.TheVariants.{Hand}
use Rattle.refusals.specs.Table.{hand}
use Rattle.refusals.specs.First.{Passed}
use Rattle.refusals.specs.Refused.{Answered}
use Rattle.refusals.proofs.FirstLaws.{here_now}
use Rattle.refusals.proofs.RefusedLaws.{refused, passes, given}
use Rattle.dataflow.specs.Whole.{up, down}
use Rattle.dataflow.specs.Move.{moved_copy, moved_shift}
use Rattle.dataflow.specs.Refusals.{MoveFits}
use Rattle.dataflow.proofs.WholeLaws.{same_number, sum_is, up_neg, down_neg}
use Rattle.checks.specs.declared.Checked.{Checked}
use Rattle.checks.specs.Check.{net_for, Ready, sheet_in}
use Rattle.checks.proofs.CheckLaws.{counts_of_once}
use Rattle.moves.specs.declared.Moved.{Moved}
use Rattle.moves.specs.Moving.{move_row, Goes}

-- the number that is divided, by the two parts of r
pub number_moved : (i : ℕ) (r : ℤ) → 1 ≤ i → pos (i - 1 + up r) -ℤ pos (down r) ≡ pos i +ℤ r -ℤ pos 1
number_moved i r h =
    let a = (sum_is (pos (i - 1 + up r)) (neg_ℤ (pos (down r)))).is in
    let b = (sum_is (pos i) r).is in
    let d = (sum_is (pos i +ℤ r) (negsuc 0)).is in
    same_number _ _ (omega (arith, up_neg (pos (down r)), down_neg (pos (down r))))

module _ {c : Checked} (h : Ready (sheet_in c) c) (v i : ℕ) (r : ℤ) where
  -- 12 is given
  pub no_move : (MoveFits (net_for (sheet_in c) c.round.q) v i r → ⊥) → Answered (move_row (sheet_in c) v i r ∷ []) (Goes (sheet_in c) v i r) (Err Hand)
  no_move n = refused Hand (here_now hand (c.round.q, h.counts, n))

  -- or it is not
  pub goes : MoveFits (net_for (sheet_in c) c.round.q) v i r → {a : Moved} → a ≡ record { copy = moved_copy (at c.round.q v) i r; shift = moved_shift (at c.round.q v) i r }
      → Answered (move_row (sheet_in c) v i r ∷ []) (Goes (sheet_in c) v i r) (Ok a)
  goes m e = rw e (passes passed (given _ (record { q = c.round.q; counts = h.counts; promise = record { copy_is = refl; shift_is = refl } })))
    where
      passed : Passed (move_row (sheet_in c) v i r)
      passed place a = a.2 (subst (λ (x : List ℕ). MoveFits (net_for (sheet_in c) x) v i r) (counts_of_once (sheet_in c) c.round.q a.0 h.counts a.1) m)
