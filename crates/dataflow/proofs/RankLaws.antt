-- Ranks: an order of the firings in which every dependence goes up.
use mathlib.Core.Path.{◌≡◌, refl, sym, ap, ◌∙◌}
use mathlib.Core.List.{List}
use Prim.Native.Nat.{ℕ, suc, ◌+◌, ◌-◌, ◌*◌, ◌≤◌, ◌<◌}
use native.Mathlib.Nat.{zero-add, suc-add, add-zero, add-suc, le_refl, mul-le-mul_right, lt_of_mul-lt-mul_right}
use native.Mathlib.Omega.{arith}
use native.Mathlib.Decide.{dec_le, dec_lt, ℕ_discrete}
use lib.ListN.{length}
use Rattle.dataflow.specs.Net.{Net, Sound}
use Rattle.dataflow.specs.Copies.{copy_of, round_of}
use Rattle.dataflow.specs.Paths.{Path, alone, step}
use Rattle.dataflow.specs.Runs.{State, initially, whenever, after, Run, ended, fires}
use Rattle.dataflow.specs.Stuck.{Stuck, RoundFires}
use Rattle.dataflow.proofs.FeedLaws.{Feed, feed_high, feed_move, feed_next}
use Rattle.dataflow.proofs.CopyLaws.{Numbered, numbered, copy_station, source_count, sink_count, inside}
use Rattle.dataflow.proofs.RunLaws.{HoldsAt, holds_fire, holds_initially}
use Rattle.dataflow.proofs.TakenLaws.{ready_counts}
use Rattle.dataflow.proofs.WholeLaws.{Retimed}

module _ (G : Net) where
  -- Ranks below k of the firings up to F.
  pub record Ranked (D : G.Queue → ℕ) (F : ℕ → ℕ) (k : ℕ) : Type 0 where
    pub rank : ℕ → ℕ → ℕ
    pub top : (v i : ℕ) → 1 ≤ i → i ≤ F v → rank v i < k
    pub up : (e : G.Queue) (h i : ℕ) → 1 ≤ h → i ≤ F (G.sink e) → Feed (D e) (G.produced e) (G.consumed e) h i → (h ≤ F (G.source e)) × (rank (G.source e) h < rank (G.sink e) i)

  -- the old rank of a firing that was done, k of a new one
  abbrev extend_if : {X : Type 0} → Dec X → ℕ → ℕ → ℕ
  extend_if (yes x) old k = old
  extend_if (no x) old k = k

  extend_old : {X : Type 0} (w : Dec X) (old k : ℕ) → X → extend_if w old k ≡ old
  extend_old (yes x) old k h = refl
  extend_old (no x) old k h = absurd (x h)

  fired_new : (v : ℕ) (F : ℕ → ℕ) (w i : ℕ) → i ≤ F w + whenever (ℕ_discrete w v) 1 → F w < i → (w ≡ v) × (i ≡ suc (F w))
  fired_new v F w i = go (ℕ_discrete w v)
    where
      go : (x : Dec (w ≡ v)) → i ≤ F w + whenever x 1 → F w < i → (w ≡ v) × (i ≡ suc (F w))
      go (yes x) a b = (x, omega arith)
      go (no x) a b = absurd (omega arith)

  -- a firing that takes what is there comes after all that it depends on
  rank_fire : (D : G.Queue → ℕ) (F : ℕ → ℕ) (k v : ℕ) → ((e : G.Queue) → G.sink e ≡ v → suc (F v) * G.consumed e ≤ D e + F (G.source e) * G.produced e) → Ranked D F k
      → Ranked D (λ w. F w + whenever (ℕ_discrete w v) 1) (suc k)
  rank_fire D F k v ready r = record { rank = rank'; top = top; up = up }
    where
      F' : ℕ → ℕ
      F' w = F w + whenever (ℕ_discrete w v) 1

      rank' : ℕ → ℕ → ℕ
      rank' w i = extend_if (dec_le i (F w)) (r.rank w i) k

      old : (w i : ℕ) → i ≤ F w → rank' w i ≡ r.rank w i
      old w i h = extend_old (dec_le i (F w)) (r.rank w i) k h

      top : (w i : ℕ) → 1 ≤ i → i ≤ F' w → rank' w i < suc k
      top w i a b = pick (dec_le i (F w))
        where
          pick : (x : Dec (i ≤ F w)) → extend_if x (r.rank w i) k < suc k
          pick (yes x) = omega (arith, r.top w i a x)
          pick (no x) = omega arith

      up : (e : G.Queue) (h i : ℕ) → 1 ≤ h → i ≤ F' (G.sink e) → Feed (D e) (G.produced e) (G.consumed e) h i → (h ≤ F' (G.source e)) × (rank' (G.source e) h < rank' (G.sink e) i)
      up e h i a b c = pick (dec_le i (F (G.sink e)))
        where
          pick : (x : Dec (i ≤ F (G.sink e))) → (h ≤ F' (G.source e)) × (rank' (G.source e) h < extend_if x (r.rank (G.sink e) i) k)
          pick (yes x) = let u = r.up e h i a x c in (omega (arith, u.0), rw (old (G.source e) h u.0) u.1)
          pick (no x) =
              let n = fired_new v F (G.sink e) i b (omega arith) in
              let e' : F v ≡ F (G.sink e) = ap F (sym n.0) in
              let m : h * G.produced e < suc (F (G.source e)) * G.produced e = omega (arith, ap (λ (y : ℕ). y * G.consumed e) (n.1 ∙ ap suc (sym e')), ready e n.0) in
              let l : h ≤ F (G.source e) = omega (arith, lt_of_mul-lt-mul_right (G.produced e) m) in
              (omega arith, rw (old (G.source e) h l) (r.top (G.source e) h a l))

  rank_run : (D : G.Queue → ℕ) (k : ℕ) {S : State G} {l : List ℕ} → Run G S l → ((e : G.Queue) → HoldsAt G D S e) → Ranked D S.fired k → Ranked D (after G S l).fired (length l + k)
  rank_run D k ended h r = rw zero-add r
  rank_run D k {S} (fires {v = v} s ready run) h r =
      rw (suc-add, ← add-suc) (rank_run D (suc k) run (λ e. holds_fire G D S v ready e (h e)) (rank_fire D S.fired k v (ready_counts G D S h v ready) r))

  -- The place in a run is a rank.
  pub run_ranked : (D : G.Queue → ℕ) (l : List ℕ) → Run G (initially G D) l → Ranked D (after G (initially G D) l).fired (length l)
  run_ranked D l run = rw (add-zero (length l)) at (rank_run D 0 run (holds_initially G D) (record {
    rank = λ v i. 0;
    top = λ v i a b. absurd (omega arith);
    up = λ e h i a b c. let m = mul-le-mul_right (G.produced e) a in let m' = mul-le-mul_right (G.consumed e) b in absurd (omega arith);
  }))

module _ (G : Net) (W : Sound G) where
  pub round_ranked : (D : G.Queue → ℕ) (f : RoundFires G D) → Ranked G D G.q (length f.order)
  round_ranked D f = record {
    rank = r.rank;
    top = λ v i a b. r.top v i a (rw (f.all_fired v (copy_station G W {v = v} {i = i} (omega arith))) b);
    up = λ e h i a b c.
        let u = r.up e h i a (rw (f.all_fired (G.sink e) (W.enters e)) b) c in
        (rw (f.all_fired (G.source e) (W.leaves e)) at u.0, u.1);
  }
    where
      r : Ranked G D (after G (initially G D) f.order).fired (length f.order)
      r = run_ranked G D f.order f.run

  -- ranks leave no loop
  pub path_rank : {D : G.Queue → ℕ} {k u i v j S : ℕ} (r : Ranked G D G.q k) → Path G D u i v j S → r.rank u i ≤ r.rank v j
  path_rank r (alone c) = le_refl _
  path_rank r (step {h = h} {j = j} e p x) = let m = inside G W e x in omega (arith, path_rank r p, (r.up e h j m.from.low m.to.high m.feed).1)

  pub ranked_not_stuck : (D : G.Queue → ℕ) (k : ℕ) → Ranked G D G.q k → ¬ Stuck G D
  ranked_not_stuck D k r l =
      let m = inside G W l.queue l.closes in
      omega (arith, path_rank r l.path, (r.up l.queue l.i l.j m.from.low m.to.high m.feed).1)

  -- ranks of all firings, round by round
  module _ (D : G.Queue → ℕ) (R : ℕ) (r : Ranked G D G.q R) where
    pub far : ℕ → ℕ → ℕ
    far v f = round_of (G.q v) f * R + r.rank v (copy_of (G.q v) f)

    far_up : (e : G.Queue) (h g a x b y : ℕ) → Numbered (G.q (G.source e)) h a x → Numbered (G.q (G.sink e)) g b y → Feed (D e) (G.produced e) (G.consumed e) h g
        → a * R + r.rank (G.source e) x < b * R + r.rank (G.sink e) y
    far_up e h g a x b y ph pg fd = go (dec_lt a b) (dec_lt b a)
      where
        go : Dec (a < b) → Dec (b < a) → a * R + r.rank (G.source e) x < b * R + r.rank (G.sink e) y
        go (yes l) z = omega (arith, mul-le-mul_right R l, r.top (G.source e) x ph.low ph.high)
        go (no l) (yes z) = absurd (omega (
          arith,
          ap (λ (w : ℕ). suc b * w) (W.counts.balanced e),
          mul-le-mul_right (G.q (G.source e) * G.produced e) z,
          ap (λ (w : ℕ). w * G.produced e) ph.is,
          ap (λ (w : ℕ). w * G.consumed e) pg.is,
          mul-le-mul_right (G.produced e) ph.low,
          mul-le-mul_right (G.consumed e) pg.high,
        ))
        go (no l) (no z) =
            let eq : a ≡ b = omega arith in
            let fd' = feed_move (D e) (D e) (G.produced e) (G.consumed e) h x g y 0 (a * G.q (G.source e)) 0 (b * G.q (G.sink e))
            (omega (arith, ap (λ (w : ℕ). a * w) (W.counts.balanced e), ap (λ (w : ℕ). w * (G.q (G.sink e) * G.consumed e)) eq)) (omega (arith, ph.is)) (omega (arith, pg.is)) fd in
            omega (arith, ap (λ (w : ℕ). w * R) eq, (r.up e x y ph.low pg.high fd').1)

    pub far_rises : (e : G.Queue) (h g : ℕ) → 1 ≤ h → 1 ≤ g → Feed (D e) (G.produced e) (G.consumed e) h g → far (G.source e) h < far (G.sink e) g
    unfolding far
    far_rises e h g lo lo' fd = far_up e h g _ _ _ _ (numbered (G.q (G.source e)) h (source_count G W e) lo) (numbered (G.q (G.sink e)) g (sink_count G W e) lo') fd

    -- a retiming s keeps ranks; M rounds are enough to keep the numbers positive
    module _ (A : G.Queue → ℕ) (s : ℕ → ℕ) (M : ℕ) (ha : Retimed G D s A) (hm : (v : ℕ) → 1 ≤ G.q v → s v ≤ M * G.q v) where
      -- the number under D of firing i of v under A
      num : ℕ → ℕ → ℕ
      num v i = i + M * G.q v - s v

      pub retimed_ranked : Ranked G A G.q (suc M * R + R)
      unfolding num far
      retimed_ranked = record { rank = λ v i. far v (num v i); top = top; up = up }
        where
          first : (v i : ℕ) → 1 ≤ i → i ≤ G.q v → 1 ≤ num v i
          first v i a b = omega (arith, hm v (omega arith))

          top : (v i : ℕ) → 1 ≤ i → i ≤ G.q v → far v (num v i) < suc M * R + R
          top v i a b =
              let pt = numbered (G.q v) (num v i) (omega arith) (first v i a b) in
              let w : round_of (G.q v) (num v i) * G.q v < suc M * G.q v = omega (arith, pt.is, pt.low) in
              omega (arith, mul-le-mul_right R (lt_of_mul-lt-mul_right (G.q v) w), r.top v _ pt.low pt.high)

          up : (e : G.Queue) (h i : ℕ) → 1 ≤ h → i ≤ G.q (G.sink e) → Feed (A e) (G.produced e) (G.consumed e) h i
              → (h ≤ G.q (G.source e)) × (far (G.source e) (num (G.source e) h) < far (G.sink e) (num (G.sink e) i))
          up e h i a b fd =
              let hi = feed_high (A e) (G.produced e) (G.consumed e) h i (G.q (G.source e)) (G.q (G.sink e)) (W.counts.balanced e) fd b in
              let lo = feed_next (A e) (A e) (G.produced e) (G.consumed e) h h i 0 0 0 0 refl refl a fd in
              let lo' : 1 ≤ i = omega (arith, lo.1, lo.2) in
              let fd' : Feed (D e) (G.produced e) (G.consumed e) (num (G.source e) h) (num (G.sink e) i) =
              feed_move (A e) (D e) (G.produced e) (G.consumed e) h (num (G.source e) h) i (num (G.sink e) i) (M * G.q (G.source e)) (s (G.source e)) (M * G.q (G.sink e)) (s (G.sink e))
              (omega (arith, ha e, ap (λ (w : ℕ). M * w) (W.counts.balanced e))) (omega (arith, hm (G.source e) (omega arith))) (omega (arith, hm (G.sink e) (omega arith))) fd in
              (hi, far_rises e (num (G.source e) h) (num (G.sink e) i) (first (G.source e) h a hi) (first (G.sink e) i lo' b) fd')
