-- The laws of rooms that are lifted stretch by stretch of firings.
use Prim.Native.Nat.{ℕ, ◌+◌, ◌-◌, ◌*◌, ◌≤◌, ◌<◌, max}
use mathlib.Core.Path.{◌≡◌, refl, sym, ap, ◌∙◌}
use mathlib.Core.List.{List, []}
use native.Mathlib.Omega.{arith}
use native.Mathlib.Decide.{ℕ_discrete}
use lib.ListN.{length, set, take, replicate, length-set}
use Rattle.lists.specs.Front.{at}
use Rattle.lists.proofs.StoreLaws.{at_zeros, after_store}
use Rattle.dataflow.specs.Net.{Net}
use Rattle.dataflow.specs.Runs.{initially, after}
use Rattle.dataflow.specs.Sheet.{Below}
use Rattle.dataflow.specs.Lists.{fired_by}
use Rattle.dataflow.specs.Peak.{fill}
use Rattle.dataflow.proofs.EntryLaws.{run_before, entry_station}
use Rattle.dataflow.proofs.PrefixLaws.{fired_stored}
use Rattle.dataflow.proofs.PeakLaws.{peak_none, peak_stretch, peak_kept}
use Rattle.dataflow.proofs.RoomLaws.{fill_counts, fill_first}
use Rattle.chain.specs.Chain.{net_of, delays_of}
use Rattle.firing.specs.Scan.{Small}
use Rattle.rooms.specs.Lifted.{Lifted, OutOf, HoldsBy, AllPut, Covered, StretchEnds, Listed, Peaks}
use Rattle.rooms.proofs.StretchLaws.{stretch_taken}

module _ (n m : ℕ) (source sink produced consumed delay : List ℕ) (count : ℕ) (list : List ℕ) where
  abbrev G : (time q : List ℕ) → Net
  G time q = net_of n m source sink produced consumed time q

  abbrev D : Below m → ℕ
  D = delays_of m delay

  -- fired has the numbers of firings of the first k entries
  pub record FiredSoFar (fired : List ℕ) (k : ℕ) : Type 0 where
    pub wide : length fired ≡ 32
    pub few : (v : ℕ) → at fired v ≤ k
    pub is : (time q : List ℕ) (v : ℕ) → at fired v ≡ fired_by (G time q) D (take k list) v

  pub none_fired_lem : FiredSoFar (replicate 32 0) 0
  none_fired_lem = record { wide = refl; few = λ v. omega (arith, at_zeros 32 v); is = λ time q v. at_zeros 32 v }

  module _ (o : Listed n m source sink produced consumed delay count list) where
    pub here : (k : ℕ) → k < count → at list k < n
    here k h = entry_station (G [] []) (initially (G [] []) D) count list o.long (o.run [] []) k h

    module _ {k end : ℕ} (stretch : StretchEnds list count k end) (small : n ≤ 32) {fired : List ℕ} (z : FiredSoFar fired k) where
      abbrev v : ℕ
      v = at list k

      within : v < length fired
      within = omega (arith, here k (omega (arith, stretch.some, stretch.within)), z.wide)

      pub stretch_fired : FiredSoFar (set fired v (at fired v + (end - k))) end
      stretch_fired = record {
        wide = simp length-set z.wide;
        few = after_store fired v (at fired v + (end - k)) within (λ w x. x ≤ end) (omega (arith, z.few v, stretch.some)) (λ w other. omega (arith, z.few w, stretch.some));
        is = λ time q w. rw (stretch_taken o.long stretch) (fired_stored (G time q) D (take k list) fired v (end - k) within (z.is time q) w);
      }

    -- the fill of the run by the numbers of firings
    fill_by : (k : ℕ) → k ≤ count → {fired : List ℕ} → FiredSoFar fired k → (e : ℕ) (l : e < m) (time q : List ℕ)
        → at fired (at sink e) * at consumed e + fill (G time q) (after (G time q) (initially (G time q) D) (take k list)) (e, l) ≡ at delay e + at fired (at source e) * at produced e
    fill_by k h z e l time q =
        let a = fill_counts (G time q) D (run_before (G time q) (initially (G time q) D) count list o.long (o.run time q) k h) (e, l) in
        omega (arith, a, ap (λ (x : ℕ). x * at consumed e) (z.is time q (at sink e)), ap (λ (x : ℕ). x * at produced e) (z.is time q (at source e)))

    pub small : (k : ℕ) → k ≤ count → {fired : List ℕ} → FiredSoFar fired k → Small delay fired
    small k h z = record { delays = o.delays; firings = λ v. omega (arith, z.few v, o.few) }

    pub all_put : (k : ℕ) → k ≤ count → {fired : List ℕ} → FiredSoFar fired k → AllPut m source sink produced consumed delay fired
    all_put k h z e l = omega (arith, fill_by k h z e l [] [])

    -- before the first firing
    pub peaks_none : {room : List ℕ} → Covered m delay room → Lifted (λ e. e < m) (Peaks n m source sink produced consumed delay 0 list) room room
    peaks_none c = record {
      long = refl;
      is = λ e h. (at delay e, (λ l time q. rw (fill_first (G time q) D (e, l)) at (peak_none (G time q) (initially (G time q) D) (e, l))), omega (arith, c e h));
      rest = λ e h. refl;
    }

    module _ {k end : ℕ} (stretch : StretchEnds list count k end) {fired : List ℕ} (z : FiredSoFar fired end) where
      -- a queue out of the station: its peak is the larger of the one before the stretch and what it holds behind it
      fed_peaks : (e x y : ℕ) → Peaks n m source sink produced consumed delay k list e x → HoldsBy source sink produced consumed delay fired e y → Peaks n m source sink produced consumed delay end list e (max x y)
      fed_peaks e x y p f l time q =
          let taken = stretch_taken o.long stretch in
          let i : fill (G time q) (after (G time q) (initially (G time q) D) (take end list)) (e, l) ≡ y = omega (arith, fill_by end stretch.within z e l time q) in
          rw (taken, ← (rw taken at i)) (peak_stretch (G time q) (at list k) (end - k) (p l time q))

      -- the others never hold more than before the stretch
      other_peaks : (e x : ℕ) → ¬ (at source e ≡ at list k) → Peaks n m source sink produced consumed delay k list e x → Peaks n m source sink produced consumed delay end list e x
      other_peaks e x other p l time q = rw (stretch_taken o.long stretch) (peak_kept (G time q) (at list k) (end - k) (p l time q) other)

      -- behind a stretch of firings of v
      pub peaks_more : {v : ℕ} → v ≡ at list k → {before now then : List ℕ} → Lifted (λ e. e < m) (Peaks n m source sink produced consumed delay k list) before now
          → Lifted (OutOf m source v) (HoldsBy source sink produced consumed delay fired) now then
          → Lifted (λ e. e < m) (Peaks n m source sink produced consumed delay end list) before then
      peaks_more {v} fires {before} {now} {then} p r = record {
        long = r.long ∙ p.long;
        is = λ e l. is e l (ℕ_discrete (at source e) v);
        rest = λ e l. r.rest e (λ a. l a.0) ∙ p.rest e l;
      }
        where
          is : (e : ℕ) → e < m → Dec (at source e ≡ v) → (x : ℕ) × Peaks n m source sink produced consumed delay end list e x × (at then e ≡ max (at before e) x)
          is e l (yes w) =
              let a = p.is e l in
              let b = r.is e (l, w) in
              (max a.0 b.0, fed_peaks e a.0 b.0 a.1 b.1, omega (arith, a.2, b.2))
          is e l (no w) = let a = p.is e l in (a.0, other_peaks e a.0 (λ x. w (x ∙ sym fires)) a.1, r.rest e (λ b. w b.1) ∙ a.2)
