-- Loop sums are unchanged by every legal retiming.
use mathlib.Core.Path.{◌≡◌, ap, ◌∙◌}
use mathlib.Core.List.{List}
use Prim.Native.Nat.{ℕ, ◌+◌, ◌*◌, ◌<◌}
use native.Mathlib.Nat.{eq_of_mul-eq-mul_right}
use native.Mathlib.Omega.{arith}
use lib.IntN.{ℤ}
use Rattle.dataflow.specs.Net.{Net, Sound}
use Rattle.dataflow.specs.Retiming.{Legal, retimed}
use Rattle.dataflow.specs.Loops.{Way, here, along, divisors, loop_sum}
use Rattle.dataflow.proofs.WholeLaws.{lift, lifted, Retimed}

-- Products of degree 5 are multiplied out one equation at a time, and the equations are summed over plain variables.
sum_equations : (X1 X2 X3 Y1 Y2 Y3 A B : ℕ) → X2 + A ≡ Y2 + Y3 → X1 + B ≡ Y1 + A → B ≡ X3 → X1 + X2 + X3 ≡ Y1 + Y2 + Y3
sum_equations X1 X2 X3 Y1 Y2 Y3 A B i h b = omega arith

out_tail : (Δ nD nd qu qv qw c rv rz : ℕ) → (nD * qv + rv * Δ) * qw ≡ (nd * qw + rz * Δ) * qv
    → c * qu * nD * qv * qw + c * rv * Δ * qu * qw ≡ c * qu * nd * qw * qv + rz * c * qv * Δ * qu
out_tail Δ nD nd qu qv qw c rv rz h = let h' = ap (λ (x : ℕ). c * qu * x) h in omega arith

out_delay : (D d Δ qu qw c p ru rv : ℕ) → D + p * ru ≡ d + c * rv → D * Δ * qu * qw + p * ru * Δ * qu * qw ≡ d * Δ * qu * qw + c * rv * Δ * qu * qw
out_delay D d Δ qu qw c p ru rv h = let h' = ap (λ (x : ℕ). x * (Δ * qu * qw)) h in omega arith

out_balance : (Δ qu qv qw c p ru : ℕ) → qu * p ≡ qv * c → p * ru * Δ * qu * qw ≡ ru * c * qv * Δ * qw
out_balance Δ qu qv qw c p ru h = let h' = ap (λ (x : ℕ). ru * Δ * qw * x) h in omega arith

out_left : (D Δ nD qu qv qw c ru : ℕ) → ((D * Δ + c * qv * nD) * qu + ru * (c * qv * Δ)) * qw ≡ D * Δ * qu * qw + c * qu * nD * qv * qw + ru * c * qv * Δ * qw
out_left D Δ nD qu qv qw c ru = omega arith

out_right : (d Δ nd qu qv qw c rz : ℕ) → d * Δ * qu * qw + c * qu * nd * qw * qv + rz * c * qv * Δ * qu ≡ ((d * Δ + c * qv * nd) * qw + rz * (c * qv * Δ)) * qu
out_right d Δ nd qu qv qw c rz = omega arith

one_more : (D d Δ nD nd qu qv qw c p ru rv rz : ℕ) → D + p * ru ≡ d + c * rv → qu * p ≡ qv * c → (nD * qv + rv * Δ) * qw ≡ (nd * qw + rz * Δ) * qv
    → ((D * Δ + c * qv * nD) * qu + ru * (c * qv * Δ)) * qw ≡ ((d * Δ + c * qv * nd) * qw + rz * (c * qv * Δ)) * qu
one_more D d Δ nD nd qu qv qw c p ru rv rz h b i =
    out_left D Δ nD qu qv qw c ru
    ∙ sum_equations _ _ _ _ _ _ _ _ (out_tail Δ nD nd qu qv qw c rv rz i) (out_delay D d Δ qu qw c p ru rv h) (out_balance Δ qu qv qw c p ru b)
    ∙ out_right d Δ nd qu qv qw c rz

module _ (G : Net) (W : Sound G) where
  -- along a way a retiming changes the sum by r(end) / q(end) - r(start) / q(start)
  way_sum : (d D : G.Queue → ℕ) (r : ℕ → ℕ) → Retimed G d r D → {u w : ℕ} {l : List G.Queue} → Way G u w l
      → (loop_sum G D l * G.q u + r u * divisors G l) * G.q w ≡ (loop_sum G d l * G.q w + r w * divisors G l) * G.q u
  way_sum d D r h here = omega arith
  way_sum d D r h (along {v = w} {l = l} e z) =
      one_more (D e) (d e) (divisors G l) (loop_sum G D l) (loop_sum G d l) (G.q (G.source e)) (G.q (G.sink e)) (G.q w) (G.consumed e) (G.produced e) (r (G.source e)) (r (G.sink e)) (r w)
      (h e) (W.counts.balanced e) (way_sum d D r h z)

  loop_sum_lem : (d D : G.Queue → ℕ) (r : ℕ → ℕ) → Retimed G d r D → (v : ℕ) (l : List G.Queue) → Way G v v l → 0 < G.q v → loop_sum G D l ≡ loop_sum G d l
  loop_sum_lem d D r h v l z hq =
      let a : loop_sum G D l * G.q v * G.q v ≡ loop_sum G d l * G.q v * G.q v = omega (arith, way_sum d D r h z) in
      eq_of_mul-eq-mul_right (G.q v) hq _ _ (eq_of_mul-eq-mul_right (G.q v) hq _ _ a)

  -- Round any loop of queues the sum of delay / divisor, multiplied by the product of the divisors, is unchanged by every legal retiming.
  pub loop_sum_stays : (d : G.Queue → ℕ) (r : ℕ → ℤ) → Legal G d r → (v : ℕ) (l : List G.Queue) → Way G v v l → v < G.stations → loop_sum G (retimed G d r) l ≡ loop_sum G d l
  loop_sum_stays d r legal v l z h = loop_sum_lem d (retimed G d r) (lift G r) (lifted G d W r legal) v l z (W.counts.positive v h)
