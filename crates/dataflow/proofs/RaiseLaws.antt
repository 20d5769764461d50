-- A raise by the late copies is legal, and never passes a retiming that serves.
use mathlib.Core.Path.{◌≡◌, ap}
use Prim.Native.Nat.{ℕ, suc, ◌+◌, ◌-◌, ◌*◌, ◌/◌, ◌≤◌, ◌<◌}
use native.Mathlib.Nat.{mul-le-mul_right, le_dest, div-add-mod', mod-lt}
use native.Mathlib.Omega.{arith}
use native.Mathlib.Decide.{dec_le}
use Rattle.dataflow.specs.Net.{Net, Sound}
use Rattle.dataflow.specs.Paths.{Path, Within, Late}
use Rattle.dataflow.proofs.FeedLaws.{Feed}
use Rattle.dataflow.proofs.CopyLaws.{inside_of}
use Rattle.dataflow.proofs.PathLaws.{path_start, path_move, late_next}
use Rattle.dataflow.proofs.WholeLaws.{Retimed}
use Rattle.dataflow.proofs.LateLaws.{Lates}

-- the delays after a legal raise
abbrev pub raised_by : (G : Net) (late : ℕ → ℕ) (D : G.Queue → ℕ) → G.Queue → ℕ
raised_by G late D e = D e + G.consumed e * late (G.sink e) - G.produced e * late (G.source e)

module _ (G : Net) (W : Sound G) where
  pub raise_legal : (D : G.Queue → ℕ) (T : ℕ) (late : ℕ → ℕ) → Lates G D T late
      → (e : G.Queue) → G.produced e * late (G.source e) ≤ D e + G.consumed e * late (G.sink e)
  raise_legal D T late hl e = pick (dec_le 1 lu) (dec_le j qv)
    where
      p : ℕ
      p = G.produced e

      c : ℕ
      c = G.consumed e

      lu : ℕ
      lu = late (G.source e)

      lv : ℕ
      lv = late (G.sink e)

      qv : ℕ
      qv = G.q (G.sink e)

      k : (k : ℕ) × (lu + k ≡ G.q (G.source e))
      k = le_dest (hl.few (G.source e))

      x : ℕ
      x = D e + k.0 * p

      -- the firing that takes the first token of the first late copy of the source
      j : ℕ
      j = suc (x / c)

      pick : Dec (1 ≤ lu) → Dec (j ≤ qv) → p * lu ≤ D e + c * lv
      pick (no z) w = let z' : lu ≡ 0 = omega arith in rw z' (omega arith)
      pick (yes z) (no w) =
          let dm = div-add-mod' x c in
          let w' : qv ≤ x / c = omega arith in
          let m = mul-le-mul_right c w' in
          omega (arith, W.counts.balanced e, ap (λ (y : ℕ). y * p) k.1)
      pick (yes z) (yes w) =
          let dm = div-add-mod' x c in
          let ml = mod-lt x (W.takes e) in
          let l = hl.last (G.source e) (suc k.0) (omega (arith, k.1)) (omega (arith, k.1)) in
          let fd : Feed (D e) p c (suc k.0) j = omega (arith, W.makes e) in
          let o = hl.only (G.sink e) j (late_next G W e j l (inside_of G W e (omega arith) (omega arith) fd)) in
          let o' : qv ≤ x / c + lv = omega arith in
          let m = mul-le-mul_right c o' in
          omega (arith, W.counts.balanced e, ap (λ (y : ℕ). y * p) k.1)

  pub raised : (d : G.Queue → ℕ) (r late : ℕ → ℕ) (D : G.Queue → ℕ) → Retimed G d r D → ((e : G.Queue) → G.produced e * late (G.source e) ≤ D e + G.consumed e * late (G.sink e))
      → Retimed G d (λ v. r v + late v) (raised_by G late D)
  raised d r late D h le e = omega (arith, h e, le e)

  module _ (d A B : G.Queue → ℕ) (r s : ℕ → ℕ) (T : ℕ) (ha : Retimed G d r A) (hb : Retimed G d s B) where
    -- Retiming shifts numbers: firing i under r is firing i + s(v) - r(v) under s.
    pub shift : (e : G.Queue) → A e + G.produced e * r (G.source e) + G.consumed e * s (G.sink e) ≡ B e + G.produced e * s (G.source e) + G.consumed e * r (G.sink e)
    shift e = omega (arith, ha e, hb e)

    module _ (le : (v : ℕ) → r v ≤ s v) (ok : Within G B T) where
      -- a copy that is late under r leaves round 0 under any s that serves
      pub must_move : (v i : ℕ) → Late G A T v i → G.q v + r v < i + s v
      must_move v i l =
          let j = le_dest (le l.first) in
          go (path_move G W A B s r shift (l.first_copy + j.0) l.path (omega (arith, j.1)) (omega (arith, (path_start G W l.path).low)))
        where
          go : {f : ℕ} → (j : ℕ) × (i + s v ≡ j + r v) × (1 ≤ j) × (j ≤ G.q v → Path G B l.first f v j l.sum) → G.q v + r v < i + s v
          go {f} m = elim (dec_le m.0 (G.q v)) [ yes y ↦ absurd (omega (arith, l.slow, ok l.first f v m.0 l.sum (m.3 y))) | no n ↦ omega (arith, m.1) ]

      pub never_passes : (late : ℕ → ℕ) → Lates G A T late → (v : ℕ) → r v + late v ≤ s v
      never_passes late hl v = pick (dec_le 1 (late v))
        where
          k : (k : ℕ) × (late v + k ≡ G.q v)
          k = le_dest (hl.few v)

          pick : Dec (1 ≤ late v) → r v + late v ≤ s v
          pick (no z) = omega (arith, le v)
          pick (yes z) =
              let m = must_move v (suc k.0) (hl.last v (suc k.0) (omega (arith, k.1)) (omega (arith, k.1))) in
              omega (arith, k.1)
