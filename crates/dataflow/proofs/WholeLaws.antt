-- New delays over whole numbers, and as sums of natural numbers.
use mathlib.Core.Path.{◌≡◌, refl, sym, ap, ◌∙◌, fun_ext, subst}
use mathlib.Core.Logic.{◌↔◌}
use mathlib.Core.Bool.{Bool, true, false, not, cond}
use Prim.Native.Nat.{ℕ, zero, suc, ◌+◌, ◌-◌, ◌*◌, ◌≤◌, ◌<◌}
use native.Mathlib.Nat.{mul-le-mul_left}
use native.Mathlib.Omega.{arith}
use lib.Dec.{T, ltb, ltb→lt, nltb→le}
use lib.IntN.{ℤ, pos, negsuc, neg_ℤ, sub_ℕ, ◌+ℤ◌, ◌*ℤ◌}
use Rattle.dataflow.specs.Net.{Net, Sound}
use Rattle.dataflow.specs.Whole.{up, down}
use Rattle.dataflow.specs.Counts.{sum}
use Rattle.dataflow.specs.Paths.{Within}
use Rattle.dataflow.specs.Retiming.{NotNegative, whole, new_delay, Legal, retimed, Serves}
use Rattle.dataflow.proofs.SumLaws.{sum_above}

-- x - y = a - b, with nothing taken away
pub same_number : (x y : ℤ) → up x + down y ≡ up y + down x → x ≡ y
same_number (pos a) (pos b) e = ap pos (omega arith)
same_number (pos a) (negsuc b) e = absurd (omega arith)
same_number (negsuc a) (pos b) e = absurd (omega arith)
same_number (negsuc a) (negsuc b) e = ap negsuc (omega arith)

pub record Difference (z : ℤ) (a b : ℕ) : Type 0 where
  pub is : up z + b ≡ a + down z

sub_is : (a b : ℕ) → Difference (sub_ℕ a b) a b
sub_is a b = go (ltb a b) (λ t. ltb→lt a b t) (λ t. nltb→le a b t)
  where
    go : (w : Bool) → (T w → a < b) → (T (not w) → b ≤ a) → Difference (cond w (negsuc (b - suc a)) (pos (a - b))) a b
    go true h k = let l = h tt in record { is = omega arith }
    go false h k = let l = k tt in record { is = omega arith }

pub sum_is : (x y : ℤ) → Difference (x +ℤ y) (up x + up y) (down x + down y)
sum_is (pos a) (pos b) = omega arith
sum_is (pos a) (negsuc b) = let s = sub_is a (suc b) in record { is = omega arith }
sum_is (negsuc a) (pos b) = let s = sub_is b (suc a) in record { is = omega arith }
sum_is (negsuc a) (negsuc b) = omega arith

pub up_neg : (x : ℤ) → up (neg_ℤ x) ≡ down x
up_neg (pos zero) = refl
up_neg (pos (suc n)) = refl
up_neg (negsuc n) = refl

pub down_neg : (x : ℤ) → down (neg_ℤ x) ≡ up x
down_neg (pos zero) = refl
down_neg (pos (suc n)) = refl
down_neg (negsuc n) = refl

pub up_times : (c : ℕ) (x : ℤ) → up (pos c *ℤ x) ≡ c * up x
up_times c (pos n) = refl
up_times c (negsuc n) = up_neg (pos (c * suc n)) ∙ omega arith

pub down_times : (c : ℕ) (x : ℤ) → down (pos c *ℤ x) ≡ c * down x
down_times c (pos n) = omega arith
down_times c (negsuc n) = down_neg (pos (c * suc n))

module _ (G : Net) where
  -- So many rounds more make no entry of r negative ..
  abbrev pub rounds_up : (r : ℕ → ℤ) → ℕ
  rounds_up r = sum G.stations (λ v. down (r v))

  -- .. and these are the entries then.
  abbrev pub lift : (r : ℕ → ℤ) → ℕ → ℕ
  lift r v = up (r v) + rounds_up r * G.q v - down (r v)

  rounds_enough : (W : Sound G) (r : ℕ → ℤ) (v : ℕ) → v < G.stations → down (r v) ≤ rounds_up r * G.q v
  rounds_enough W r v h = omega (arith, sum_above G.stations (λ w. down (r w)) v h, mul-le-mul_left (rounds_up r) (W.counts.positive v h))

module _ (G : Net) (d : G.Queue → ℕ) where
  -- the new delay is the difference of two sums
  pub delay_is : (r : ℕ → ℤ) (e : G.Queue)
      → Difference (new_delay G d r e) (d e + G.consumed e * up (r (G.sink e)) + G.produced e * down (r (G.source e))) (G.consumed e * down (r (G.sink e)) + G.produced e * up (r (G.source e)))
  delay_is r e =
      let x = pos (G.consumed e) *ℤ r (G.sink e) in
      let y = pos (G.produced e) *ℤ r (G.source e) in
      let s = sum_is (pos (d e)) x in
      let t = sum_is (pos (d e) +ℤ x) (neg_ℤ y) in
      record {
        is = omega (
          arith,
          s.is,
          t.is,
          up_neg y,
          down_neg y,
          up_times (G.consumed e) (r (G.sink e)),
          down_times (G.consumed e) (r (G.sink e)),
          up_times (G.produced e) (r (G.source e)),
          down_times (G.produced e) (r (G.source e)),
        );
      }

  -- D are the delays after the retiming r, with nothing taken away.
  abbrev pub Retimed : (r : ℕ → ℕ) (D : G.Queue → ℕ) → Type 0
  Retimed r D = (e : G.Queue) → D e + G.produced e * r (G.source e) ≡ d e + G.consumed e * r (G.sink e)

  pub new_delay_lem : (r : ℕ → ℤ) → Legal G d r → (e : G.Queue) → new_delay G d r e ≡ pos (retimed G d r e)
  new_delay_lem r legal e = go (new_delay G d r e) (legal e)
    where
      go : (z : ℤ) → NotNegative z → z ≡ pos (up z)
      go (pos n) h = refl
      go (negsuc n) h = absurd h

  pub retimed_whole : (r : ℕ → ℕ) → Legal G d (whole r) → Retimed r (retimed G d (whole r))
  retimed_whole r legal e =
      let i = (delay_is (whole r) e).is in
      let n = new_delay_lem (whole r) legal e in
      omega (arith, i, ap up n, ap down n)

  pub whole_retimed : (r : ℕ → ℕ) (D : G.Queue → ℕ) → Retimed r D → (e : G.Queue) → new_delay G d (whole r) e ≡ pos (D e)
  whole_retimed r D h e = same_number _ _ (omega (arith, h e, (delay_is (whole r) e).is))

  pub legal_whole : (r : ℕ → ℕ) (D : G.Queue → ℕ) → Retimed r D → Legal G d (whole r)
  legal_whole r D h e = rw (whole_retimed r D h e) tt

  pub retimed_is : (r : ℕ → ℕ) (D : G.Queue → ℕ) → Retimed r D → retimed G d (whole r) ≡ D
  retimed_is r D h = fun_ext (λ e. ap up (whole_retimed r D h e))

  pub retimed_same : (r r' : ℕ → ℕ) (D : G.Queue → ℕ) → Retimed r D → ((v : ℕ) → r' v ≡ r v) → Retimed r' D
  retimed_same r r' D h eq e = rw (eq (G.source e), eq (G.sink e)) (h e)

  -- they are the delays of r
  pub lifted : (W : Sound G) (r : ℕ → ℤ) → Legal G d r → Retimed (lift G r) (retimed G d r)
  lifted W r legal e =
      let n = new_delay_lem r legal e in
      let a : lift G r (G.source e) + down (r (G.source e)) ≡ up (r (G.source e)) + rounds_up G r * G.q (G.source e) = omega (arith, rounds_enough G W r (G.source e) (W.leaves e)) in
      let b : lift G r (G.sink e) + down (r (G.sink e)) ≡ up (r (G.sink e)) + rounds_up G r * G.q (G.sink e) = omega (arith, rounds_enough G W r (G.sink e) (W.enters e)) in
      omega (arith, (delay_is r e).is, ap up n, ap down n, ap (λ (x : ℕ). G.produced e * x) a, ap (λ (x : ℕ). G.consumed e * x) b, ap (λ (x : ℕ). rounds_up G r * x) (W.counts.balanced e))

  pub lift_serves : (W : Sound G) (T : ℕ) (r : ℕ → ℤ) → Serves G d T r → Serves G d T (whole (lift G r))
  lift_serves W T r s =
      let h = lifted W r s.legal in
      record { legal = legal_whole (lift G r) (retimed G d r) h; within = rw (retimed_is (lift G r) (retimed G d r) h) s.within }

  -- r and r + q give the same delays
  pub same_delays : (W : Sound G) (r : ℕ → ℤ) (e : G.Queue) → new_delay G d (λ v. r v +ℤ pos (G.q v)) e ≡ new_delay G d r e
  same_delays W r e =
      let a = (sum_is (r (G.source e)) (pos (G.q (G.source e)))).is in
      let b = (sum_is (r (G.sink e)) (pos (G.q (G.sink e)))).is in
      same_number _ _ (omega (
        arith,
        (delay_is r e).is,
        (delay_is (λ v. r v +ℤ pos (G.q v)) e).is,
        ap (λ (x : ℕ). G.produced e * x) a,
        ap (λ (x : ℕ). G.consumed e * x) b,
        W.counts.balanced e,
      ))

  -- so the one serves exactly when the other does
  pub serves_round : (W : Sound G) (T : ℕ) (r : ℕ → ℤ) → Serves G d T r ↔ Serves G d T (λ v. r v +ℤ pos (G.q v))
  serves_round W T r =
      let delays : new_delay G d (λ v. r v +ℤ pos (G.q v)) ≡ new_delay G d r = fun_ext (same_delays W r) in (
        (λ s. record { legal = λ e. rw (same_delays W r e) (s.legal e); within = subst (λ (D : G.Queue → ℤ). Within G (λ e. up (D e)) T) (sym delays) s.within }),
        λ s. record { legal = λ e. rw (same_delays W r e) at (s.legal e); within = subst (λ (D : G.Queue → ℤ). Within G (λ e. up (D e)) T) delays s.within },
      )
