-- The hand check, by the rows of the table.
use Prim.Native.Nat.{ℕ, ◌≤◌, ◌<◌, ◌^◌}
use mathlib.Core.Path.{◌≡◌, refl, sym, ap, fun_ext, subst}
use mathlib.Core.Bool.{Bool, true, false}
use mathlib.Core.List.{List, [], ◌∷◌}
use mathlib.Core.Logic.{⊎_elim}
use native.Mathlib.Omega.{arith}
use lib.ListN.{length, get_or-eq_default}
use Rattle.std.specs.Prelude.{Ok, Err, MatchBool}
use Rattle.std.specs.List.{AllWithin, HoldsAt}
use lib.IntN.{ℤ, pos}
use Rattle.lists.specs.Front.{at}
use Rattle.lists.specs.Test.{Tells}
use Rattle.lists.proofs.TestLaws.{tells_true, tells_false}
use Rattle.lists.proofs.Order.{lt_or_ge}
use Rattle.refusals.specs.declared.refusal.Refusal.{Refusal}
use Rattle.refusals.specs.declared.refusal.Refusal.TheVariants.{Slow}
use Rattle.refusals.specs.Table.{slow}
use Rattle.refusals.specs.First.{Passed}
use Rattle.refusals.specs.Refused.{Answered}
use Rattle.refusals.proofs.FirstLaws.{extend, here_now}
use Rattle.refusals.proofs.RefusedLaws.{number_real, refused, given, passes}
use Rattle.dataflow.specs.Paths.{Period}
use Rattle.dataflow.specs.Refusals.{InHandRange, HandFits}
use Rattle.dataflow.specs.Retiming.{by_hand, Legal, retimed}
use Rattle.dataflow.specs.Sheet.{Below}
use Rattle.dataflow.specs.Stuck.{Stuck}
use Rattle.dataflow.specs.Whole.{up, down}
use Rattle.dataflow.proofs.NotStuckLaws.{legal_retiming_not_stuck}
use Rattle.dataflow.proofs.PathLaws.{period_once}
use Rattle.chain.specs.Chain.{delays_of}
use Rattle.chain.proofs.ChainLaws.{sound}
use Rattle.firing.specs.Fire.{Fires}
use Rattle.firing.proofs.PeriodLaws.{round_stuck}
use Rattle.sheet.specs.declared.Sheet.{Sheet}
use Rattle.checks.specs.declared.Checked.{Checked}
use Rattle.checks.specs.Check.{net_for, delays_for, CountsOf, Ready, sheet_in}
use Rattle.checks.proofs.CheckLaws.{counts_of_once, ready_not_stuck}
use Rattle.hand.specs.Hand.{negative_row, slow_row, Tried}
use Rattle.hand.specs.Shift.{NewDelays}
use Rattle.hand.specs.Trial.{Timeable}
use Rattle.hand.proofs.ShiftLaws.{products, queue_small, new_is}

-- exactly the entries that are wanted, and whether each is in range
pub fits_told : (f : Sheet) (l : List ℤ) → length l ≡ f.n → (r : Bool) → MatchBool r (AllWithin InHandRange l 0 (length l)) ((k : ℕ) × (k < length l) × HoldsAt (λ x. ¬ InHandRange x) l k) → Tells r (HandFits (net_for f []) l)
fits_told f l e true h = tells_true refl (record {
  one_each = e;
  in_range = λ v. ⊎_elim (λ b. h v (pos 0) (omega arith) b) (λ b. rw (get_or-eq_default l (pos 0) {n = v} b) (omega arith)) (lt_or_ge v (length l));
})
fits_told f l e false h = tells_false refl (λ fits. h.2 (pos 0) (fits.in_range h.0))

-- 14 is not given where the period is within the target
pub in_time : (f : Sheet) (l : List ℤ) {q : List ℕ} → CountsOf f q → {P : ℕ} → Period (net_for f q) (retimed (net_for f q) (delays_for f q) (by_hand l)) P → P ≤ f.target → Passed (slow_row f l)
in_time f l {q} counts {P} period b place a =
    let x = subst (λ (q : List ℕ). (P' : ℕ) × Period (net_for f q) (retimed (net_for f q) (delays_for f q) (by_hand l)) P' × (f.target < P')) (counts_of_once f a.0 q a.1 counts) a.2 in
    omega (arith, x.2, period_once _ _ P x.0 period x.1)

module _ (f : Sheet) (l : List ℤ) where
  -- 13 is all that is said
  pub negative_refused : {e : Refusal} {T : Type 0} {P : List ℕ → Type 0} {Q : T → Type 0} → Answered (negative_row f l ∷ []) P (Err e) → Answered (negative_row f l ∷ slow_row f l ∷ []) Q (Err e)
  negative_refused {e} a = refused e (extend (negative_row f l ∷ []) (slow_row f l ∷ []) a.verdict (number_real e))

module _ {c : Checked} (h : Ready (sheet_in c) c) where
  abbrev f : Sheet
  f = sheet_in c

  module _ {l : List ℤ} {new : List ℕ} (d : NewDelays f l new) where
    -- the hand list is legal
    is_legal : (q : List ℕ) → Legal (net_for f q) (delays_for f q) (by_hand l)
    is_legal q e = rw (d.is e) tt

    negative_passed : Passed (negative_row f l)
    negative_passed place a = a.2 (is_legal [] a.0)

    retimed_is : (q : List ℕ) → retimed (net_for f q) (delays_for f q) (by_hand l) ≡ delays_of f.m new
    retimed_is q = fun_ext (λ (e : Below f.m). ap up (d.is e))

    small : HandFits (net_for f []) l → (e : ℕ) → at new e < 2 ^ 30
    small fit e = ⊎_elim within (λ b. omega (arith, d.rest e b)) (lt_or_ge e f.m)
      where
        within : e < f.m → at new e < 2 ^ 30
        within b =
            let k = queue_small h fit e b in
            let p = products k in
            omega (arith, (new_is f l (e, b)).is, ap up (d.is (e, b)), ap down (d.is (e, b)), k.held, p.sink_up, p.source_down)

    pub timeable : HandFits (net_for f []) l → Timeable c new
    timeable fit = record {
      ready = h;
      small = small fit;
      fires = subst (λ (D : Below f.m → ℕ). ¬ Stuck (net_for f c.round.q) D) (retimed_is c.round.q)
          (legal_retiming_not_stuck (net_for f c.round.q) (sound c.round.counted f.time) (delays_for f c.round.q) (ready_not_stuck h) (by_hand l) (is_legal c.round.q));
    }

    module _ {P : ℕ} (p : Period (net_for f c.round.q) (delays_of f.m new) P) where
      period : Period (net_for f c.round.q) (retimed (net_for f c.round.q) (delays_for f c.round.q) (by_hand l)) P
      period = subst (λ (D : Below f.m → ℕ). Period (net_for f c.round.q) D P) (sym (retimed_is c.round.q)) p

      -- 14 is given
      pub slow_refused : f.target < P → Answered (negative_row f l ∷ slow_row f l ∷ []) (Tried f l) (Err Slow)
      slow_refused b = passes negative_passed (refused Slow (here_now slow (c.round.q, h.counts, (P, period, b))))

      -- or it is not
      pub tried : P ≤ f.target → Answered (negative_row f l ∷ slow_row f l ∷ []) (Tried f l) (Ok P)
      tried b =
          passes negative_passed
          (passes (in_time f l h.counts period b) (given P (record { q = c.round.q; counts = h.counts; promise = record { legal = is_legal c.round.q; period = period; within = b } })))

-- a round is fired with delays with which the sheet isn't stuck
pub must_fire : {c : Checked} {new : List ℕ} → Timeable c new → {r : Bool} {before after : List ℕ}
    → let k = c.round.chain in Fires k.n k.m k.source k.sink k.produced k.consumed new c.round.q c.round.total r before after → r ≡ true
must_fire {c} t {r} F = go r refl
  where
    go : (b : Bool) → r ≡ b → r ≡ true
    go true e = e
    go false e = absurd (t.fires (round_stuck c.round.counted F c.time e))
