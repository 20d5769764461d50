-- Zero-delay paths: later copies, other numberings.
use mathlib.Core.Path.{◌≡◌}
use mathlib.Core.Logic.{◌↔◌}
use Prim.Native.Nat.{ℕ, ◌+◌, ◌*◌, ◌≤◌}
use native.Mathlib.Omega.{arith}
use native.Mathlib.Decide.{dec_le}
use Rattle.dataflow.specs.Net.{Net, Sound}
use Rattle.dataflow.specs.Copies.{Copy, Dependence}
use Rattle.dataflow.specs.Paths.{Path, alone, step, Within, Period, Late}
use Rattle.dataflow.proofs.FeedLaws.{feed_up, feed_next, feed_high}
use Rattle.dataflow.proofs.CopyLaws.{inside, inside_of}

module _ (G : Net) (W : Sound G) where
  pub path_end : {D : G.Queue → ℕ} {u i v j S : ℕ} → Path G D u i v j S → Copy G v j
  path_end (alone c) = c
  path_end (step e p x) = (inside G W e x).to

  pub path_start : {D : G.Queue → ℕ} {u i v j S : ℕ} → Path G D u i v j S → Copy G u i
  path_start (alone c) = c
  path_start (step e p x) = path_start p

  -- one more step, to a station that is known only to be equal to the sink
  pub step_to : {D : G.Queue → ℕ} {u i h j S v : ℕ} (e : G.Queue) → G.sink e ≡ v → Path G D u i (G.source e) h S → Dependence G D e h j 0
      → Path G D u i v j (S + G.cost e + G.time v)
  step_to e to p x = rw to at (step e p x)

  -- the first copy of a path and its last copy rise together, and the sum stays
  pub path_up : {D : G.Queue → ℕ} {u i v j S : ℕ} (j' : ℕ) → Path G D u i v j S → j ≤ j' → j' ≤ G.q v → (i' : ℕ) × (i ≤ i') × Path G D u i' v j' S
  path_up j' (alone {v = w} c) le hi = (j', le, alone {v = w} {i = j'} (omega arith))
  path_up {D} j' (step {h = h} {j = j} e p x) le hi =
      let m = inside G W e x in
      let k = feed_up (D e) (G.produced e) (G.consumed e) h j j' (G.q (G.source e)) (G.q (G.sink e)) (W.makes e) (W.takes e) (W.counts.balanced e) m.from.low m.feed le hi in
      let r = path_up k.0 p k.1 k.2 in
      (r.0, r.1, step e r.2 (inside_of G W e (omega (arith, m.from.low)) (omega (arith, m.to.low)) k.3))

  -- the late copies of a station are its last ones
  pub late_up : {D : G.Queue → ℕ} {T v j : ℕ} (j' : ℕ) → Late G D T v j → j ≤ j' → j' ≤ G.q v → Late G D T v j'
  late_up j' l le hi = let r = path_up j' l.path le hi in record { first = l.first; first_copy = r.0; sum = l.sum; path = r.2; slow = l.slow }

  -- what a late copy feeds is late
  pub late_next : {D : G.Queue → ℕ} {T h : ℕ} (e : G.Queue) (j : ℕ) → Late G D T (G.source e) h → Dependence G D e h j 0 → Late G D T (G.sink e) j
  late_next e j l x = record { first = l.first; first_copy = l.first_copy; sum = _; path = step e l.path x; slow = omega (arith, l.slow) }

  -- A path in another numbering of the firings: delays A with numbers shifted by a are delays B with numbers shifted by b.
  module _ (A B : G.Queue → ℕ) (a b : ℕ → ℕ)
      (same : (e : G.Queue) → A e + G.produced e * b (G.source e) + G.consumed e * a (G.sink e) ≡ B e + G.produced e * a (G.source e) + G.consumed e * b (G.sink e)) where
    pub path_move : {u i v j S : ℕ} (i' : ℕ) → Path G A u i v j S → i + a u ≡ i' + b u → 1 ≤ i'
        → (j' : ℕ) × (j + a v ≡ j' + b v) × (1 ≤ j') × (j' ≤ G.q v → Path G B u i' v j' S)
    path_move i' (alone {v = w} c) ei lo = (i', ei, lo, λ hi. alone {v = w} {i = i'} (omega arith))
    path_move i' (step {h = h} {j = j} e p x) ei lo =
        let r = path_move i' p ei lo in
        let m = inside G W e x in
        let k = feed_next (A e) (B e) (G.produced e) (G.consumed e) h r.0 j (a (G.source e)) (b (G.source e)) (a (G.sink e)) (b (G.sink e)) (same e) r.1 r.2 m.feed in (
          k.0,
          k.1,
          k.2,
          λ hi.
              step e (r.3 (feed_high (B e) (G.produced e) (G.consumed e) r.0 k.0 (G.q (G.source e)) (G.q (G.sink e)) (W.counts.balanced e) k.3 hi))
              (inside_of G W e r.2 (omega arith) k.3),
        )

-- none is late exactly when all is within the target, and that is exactly when the period is
pub within_none_late : (G : Net) (D : G.Queue → ℕ) (T : ℕ) → ((v j : ℕ) → ¬ Late G D T v j) → Within G D T
within_none_late G D T h u i v j S p = elim (dec_le S T) [ yes y ↦ y | no n ↦ absurd (h v j (record { first = u; first_copy = i; sum = S; path = p; slow = omega arith })) ]

pub none_late_within : (G : Net) (D : G.Queue → ℕ) (T : ℕ) → Within G D T → (v j : ℕ) → ¬ Late G D T v j
none_late_within G D T h v j l = omega (arith, h l.first l.first_copy v j l.sum l.path, l.slow)

pub period_within : (G : Net) (D : G.Queue → ℕ) (T P : ℕ) → Period G D P → (P ≤ T) ↔ Within G D T
period_within G D T P h = ((λ le u i v j S p. omega (arith, h.passed_by_none u i v j S p)), (λ w. w _ _ _ _ P h.reached))

pub period_once : (G : Net) (D : G.Queue → ℕ) (P P' : ℕ) → Period G D P → Period G D P' → P ≡ P'
period_once G D P P' h h' = omega (arith, h.passed_by_none _ _ _ _ P' h'.reached, h'.passed_by_none _ _ _ _ P h.reached)
