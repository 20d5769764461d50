-- New delays are differences of two small sums.
use Prim.Native.Nat.{ℕ, ◌+◌, ◌*◌, ◌≤◌, ◌<◌}
use mathlib.Core.Path.{◌≡◌, ap}
use mathlib.Core.List.{List, [], ◌∷◌}
use native.Mathlib.Nat.{mul-le-mul}
use native.Mathlib.Omega.{arith}
use Rattle.std.specs.Prelude.{Ok, Err}
use lib.IntN.{ℤ, pos, negsuc}
use mir.Syntax.{w32}
use mir.Val.{to_z, of_z}
use mir.Facts.{to_z-of_z}
use Rattle.lists.specs.Front.{at}
use Rattle.lists.specs.Filled.{Filled}
use Rattle.refusals.specs.declared.refusal.Refusal.TheVariants.{Negative}
use Rattle.refusals.specs.Refused.{Answered}
use Rattle.refusals.proofs.FirstLaws.{here}
use Rattle.refusals.proofs.RefusedLaws.{refused, given, passes}
use Rattle.dataflow.specs.Refusals.{HandFits}
use Rattle.dataflow.specs.Retiming.{NotNegative, by_hand, new_delay}
use Rattle.dataflow.specs.Sheet.{Below}
use Rattle.dataflow.specs.Whole.{up, down}
use Rattle.dataflow.proofs.NumberLaws.{number_of_lem, number_is}
use Rattle.dataflow.proofs.WholeLaws.{Difference, delay_is}
use Rattle.sheet.specs.declared.Sheet.{Sheet}
use Rattle.checks.specs.declared.Checked.{Checked}
use Rattle.checks.specs.Check.{net_for, delays_for, Ready, sheet_in}
use Rattle.signed.proofs.PartLaws.{parts_small, range_fits}
use Rattle.hand.specs.Hand.{negative_row}
use Rattle.hand.specs.Shift.{gain, loss, Small, NewDelays}

-- each product is at most 64 × 65,535
pub record Products (consumed : ℕ) (sink : ℤ) (produced : ℕ) (source : ℤ) : Type 0 where
  pub sink_up : consumed * up sink ≤ 4194240
  pub sink_down : consumed * down sink ≤ 4194240
  pub source_up : produced * up source ≤ 4194240
  pub source_down : produced * down source ≤ 4194240

pub products : {delay consumed : ℕ} {sink : ℤ} {produced : ℕ} {source : ℤ} → Small delay consumed sink produced source → Products consumed sink produced source
products {sink = sink} {source = source} s =
    let a = parts_small sink s.sink_range in
    let b = parts_small source s.source_range in
    record {
      sink_up = mul-le-mul s.takes a.0;
      sink_down = mul-le-mul s.takes a.1;
      source_up = mul-le-mul s.makes b.0;
      source_down = mul-le-mul s.makes b.1;
    }

-- what the two sums tell of their difference
not_below : (z : ℤ) (a b x : ℕ) → Difference z a b → x + b ≡ a → z ≡ pos x
not_below (pos n) a b x D h = ap pos (omega (arith, D.is))
not_below (negsuc n) a b x D h = absurd (omega (arith, D.is))

is_below : (z : ℤ) (a b : ℕ) → Difference z a b → a < b → ¬ NotNegative z
is_below (pos n) a b D h t = omega (arith, D.is)
is_below (negsuc n) a b D h t = t

module _ (f : Sheet) (l : List ℤ) where
  -- both sums of queue e
  abbrev pub gain_of : ℕ → ℕ
  gain_of e = gain (at f.delay e) (at f.consumed e) (by_hand l (at f.sink e)) (at f.produced e) (by_hand l (at f.source e))

  abbrev pub loss_of : ℕ → ℕ
  loss_of e = loss (at f.consumed e) (by_hand l (at f.sink e)) (at f.produced e) (by_hand l (at f.source e))

  -- what the first k queues have left, and 0 beyond them
  abbrev pub LeftTo : (k : ℕ) (new : List ℕ) → Type 0
  LeftTo = Filled (λ e x. x + loss_of e ≡ gain_of e)

  pub new_is : (e : Below f.m) → Difference (new_delay (net_for f []) (delays_for f []) (by_hand l) e) (gain_of e.0) (loss_of e.0)
  new_is = delay_is (net_for f []) (delays_for f []) (by_hand l)

  left_is : {k : ℕ} {new : List ℕ} → LeftTo k new → (e : Below f.m) → e.0 < k → new_delay (net_for f []) (delays_for f []) (by_hand l) e ≡ pos (at new e.0)
  left_is d e b = not_below _ _ _ _ (new_is e) (d.is e.0 b)

  -- 13 is given
  pub short_refused : {e : ℕ} {new : List ℕ} {P : List ℕ → Type 0} → e < f.m → LeftTo e new → gain_of e < loss_of e → Answered (negative_row f l ∷ []) P (Err (Negative e))
  short_refused {e} {new} b d short =
      refused (Negative e) (here {r = negative_row f l} (record {
        applies = ((e, b), number_of_lem f.m e b, is_below _ _ _ (new_is (e, b)) short);
        none_below = λ i i_low a. a.2 (rw (left_is d a.0 (omega (arith, number_is f.m a.0 i a.1))) tt);
      }))

  -- or it is not
  pub all_left : {new : List ℕ} → LeftTo f.m new → Answered (negative_row f l ∷ []) (NewDelays f l) (Ok new)
  all_left d = passes (λ place a. a.2 (rw (left_is d a.0 a.0.1) tt)) (given _ (record { is = λ e. left_is d e e.1; rest = d.rest }))

-- an entry as the program reads it
pub entry_is : (f : Sheet) {l : List ℤ} → HandFits (net_for f []) l → (v : ℕ) → to_z w32 (of_z w32 (by_hand l v)) ≡ by_hand l v
entry_is f {l} fit v = to_z-of_z (range_fits (by_hand l v) (fit.in_range v))

-- the numbers of queue e are small
pub queue_small : {c : Checked} → Ready (sheet_in c) c → {l : List ℤ} → HandFits (net_for (sheet_in c) []) l → (e : ℕ) → e < c.round.chain.m
    → let f = sheet_in c in Small (at f.delay e) (at f.consumed e) (by_hand l (at f.sink e)) (at f.produced e) (by_hand l (at f.source e))
queue_small {c} h fit e b = record {
  held = h.given.most e;
  takes = c.round.chain.fits.takes_most e b;
  makes = c.round.chain.fits.makes_most e b;
  sink_range = fit.in_range _;
  source_range = fit.in_range _;
}
