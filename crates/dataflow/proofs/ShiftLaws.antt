-- Dependences by rounds and under a retiming: the numbers shift, and nothing else.
use mathlib.Core.Path.{◌≡◌, ap}
use mathlib.Core.Logic.{◌↔◌}
use Prim.Native.Nat.{ℕ, ◌+◌, ◌*◌, ◌≤◌}
use native.Mathlib.Omega.{arith}
use lib.IntN.{ℤ}
use Rattle.dataflow.specs.Net.{Net, Sound}
use Rattle.dataflow.specs.Places.{Depends}
use Rattle.dataflow.specs.Retiming.{Legal, retimed}
use Rattle.dataflow.proofs.FeedLaws.{feed_of, depends_of, feed_move}
use Rattle.dataflow.specs.Whole.{up, down}
use Rattle.dataflow.proofs.WholeLaws.{delay_is, new_delay_lem}

module _ (G : Net) (W : Sound G) where
  -- Firing g depends on firing f.
  abbrev pub DependsOn : (D : G.Queue → ℕ) (e : G.Queue) (f g : ℕ) → Type 0
  DependsOn D e f g = Depends (D e) (G.produced e) (G.consumed e) f g

  -- the numbers f + a ≡ f' + a' and g + b ≡ g' + b' tell the same firings, by the delays d and D
  moved : (d D : G.Queue → ℕ) (e : G.Queue) (f f' g g' a a' b b' : ℕ) → d e + G.produced e * a' + G.consumed e * b ≡ D e + G.produced e * a + G.consumed e * b'
      → 1 ≤ f → 1 ≤ f' → 1 ≤ g → 1 ≤ g' → f + a ≡ f' + a' → g + b ≡ g' + b' → DependsOn d e f g → DependsOn D e f' g'
  moved d D e f f' g g' a a' b b' same lf lf' lg lg' ef eg h =
      depends_of (D e) (G.produced e) (G.consumed e) f' g' (W.makes e) (W.takes e) lf' lg'
      (feed_move (d e) (D e) (G.produced e) (G.consumed e) f f' g g' a a' b b' same ef eg (feed_of (d e) (G.produced e) (G.consumed e) f g lf lg h))

  -- k rounds later the same firings depend on one another
  pub depends_later : (D : G.Queue → ℕ) (e : G.Queue) (f g k : ℕ) → 1 ≤ f → 1 ≤ g → DependsOn D e f g ↔ DependsOn D e (f + k * G.q (G.source e)) (g + k * G.q (G.sink e))
  depends_later D e f g k lf lg =
      let b = ap (λ (x : ℕ). k * x) (W.counts.balanced e) in (
        moved D D e f _ g _ (k * G.q (G.source e)) 0 (k * G.q (G.sink e)) 0 (omega arith) lf (omega arith) lg (omega arith) (omega arith) (omega arith),
        moved D D e _ f _ g 0 (k * G.q (G.source e)) 0 (k * G.q (G.sink e)) (omega arith) (omega arith) lf (omega arith) lg (omega arith) (omega arith),
      )

  -- Shift: firing f of v by the sheet's delays is firing f + r(v) by the new ones.
  pub depends_shift : (d : G.Queue → ℕ) (r : ℕ → ℤ) → Legal G d r → (e : G.Queue) (f f' g g' : ℕ) → 1 ≤ f → 1 ≤ f' → 1 ≤ g → 1 ≤ g'
      → f + up (r (G.source e)) ≡ f' + down (r (G.source e)) → g + up (r (G.sink e)) ≡ g' + down (r (G.sink e)) → DependsOn d e f g ↔ DependsOn (retimed G d r) e f' g'
  depends_shift d r legal e f f' g g' lf lf' lg lg' ef eg =
      let n = new_delay_lem G d r legal e in
      let i = (delay_is G d r e).is in
      let u = ap up n in
      let w = ap down n in (
        moved d (retimed G d r) e f f' g g' (up (r (G.source e))) (down (r (G.source e))) (up (r (G.sink e))) (down (r (G.sink e))) (omega arith) lf lf' lg lg' ef eg,
        moved (retimed G d r) d e f' f g' g (down (r (G.source e))) (up (r (G.source e))) (down (r (G.sink e))) (up (r (G.sink e))) (omega arith) lf' lf lg' lg (omega arith) (omega arith),
      )
