-- The room of a queue: by numbers of firings, in two parts, and that further rounds never need more.
use mathlib.Core.Path.{◌≡◌, sym, ap, ◌∙◌}
use mathlib.Core.List.{List, [], ◌++◌}
use Prim.Native.Nat.{ℕ, zero, suc, ◌+◌, ◌*◌, ◌≤◌, max}
use native.Mathlib.Omega.{arith}
use lib.ListN.{length, take}
use Rattle.dataflow.specs.Net.{Net, Sound}
use Rattle.dataflow.specs.Runs.{initial, State, initially, after, Run}
use Rattle.dataflow.specs.Lists.{RoundList, repeated, fired_by}
use Rattle.dataflow.specs.Peak.{fill, Peak, Room}
use Rattle.dataflow.proofs.ListFrom.{length_from}
use Rattle.dataflow.proofs.RunLaws.{holds, holds_length}
use Rattle.dataflow.proofs.RepeatLaws.{round_leaves}
use Rattle.dataflow.proofs.PeakLaws.{peak_from, peak_of, peak_is, peak_computed, computed_peak, peak_first, computed_append, peak_append}

-- The fill by numbers of firings: fired(sink) × consumed + fill = delay + fired(source) × produced.
pub fill_counts : (G : Net) (d : G.Queue → ℕ) {l : List ℕ} → Run G (initially G d) l → (e : G.Queue)
    → fired_by G d l (G.sink e) * G.consumed e + fill G (after G (initially G d) l) e ≡ d e + fired_by G d l (G.source e) * G.produced e
fill_counts G d run e = holds_length (d e) (G.produced e) (G.consumed e) _ _ _ (holds G d run e)

module _ (G : Net) (d : G.Queue → ℕ) where
  -- before the first firing a queue holds its delay
  pub fill_first : (e : G.Queue) → fill G (initially G d) e ≡ d e
  fill_first e = length_from initial 0 (d e)

  -- The room as a computed number.
  pub computed_room : (start round : List ℕ) (e : G.Queue) → Room G d start round e (peak_from G (d e) (start ++ round) e)
  computed_room start round e = rw (fill_first e) at (peak_is G (initially G d) (start ++ round) e)

  -- The room is found in two parts, where the start list leaves the new delays D: the peak of the start list from the sheet's delays, and that of the round list from the new ones.
  pub room_in_parts : (D : G.Queue → ℕ) (start round : List ℕ) → ((e : G.Queue) → fill G (after G (initially G d) start) e ≡ D e)
      → {e : G.Queue} {x y : ℕ} → Peak G (initially G d) start e x → Peak G (initially G D) round e y → Room G d start round e (max x y)
  room_in_parts D start round leaves {e} p k =
      peak_append G p (computed_peak G (peak_computed G k ∙ ap (λ (n : ℕ). peak_from G n round e) (length_from initial 0 (D e) ∙ sym (leaves e))))

module _ (G : Net) (W : Sound G) (D : G.Queue → ℕ) (round : List ℕ) (list : RoundList G D round) where
  -- Rounds that begin from the new delays need what one of them needs.
  rounds_of : (k : ℕ) (S : State G) → ((e : G.Queue) → fill G S e ≡ D e) → (e : G.Queue) → peak_of G S (repeated (suc k) round) e ≡ peak_of G S round e
  rounds_of zero S h e = omega (arith, computed_append G S round [] e, round_leaves G W D round list S h e, h e, peak_first G (fill G S e) round e)
  rounds_of (suc k) S h e =
      let S' = after G S round in
      let left = round_leaves G W D round list S h in
      omega (arith, computed_append G S round (repeated (suc k) round) e, rounds_of k S' left e, ap (λ (n : ℕ). peak_from G n round e) (left e ∙ sym (h e)))

  -- The room of a plan: start is the start list, and the fills after it are the new delays.
  module _ (d : G.Queue → ℕ) (start : List ℕ) (leaves : (e : G.Queue) → fill G (after G (initially G d) start) e ≡ D e) where
    -- Further rounds never need more.
    pub room_further : (k : ℕ) {e : G.Queue} {x : ℕ} → Room G d start round e x → Peak G (initially G d) (start ++ repeated (suc k) round) e x
    room_further k {e} p =
        let S = after G (initially G d) start in
        computed_peak G (omega (arith, peak_computed G p, computed_append G (initially G d) start round e, computed_append G (initially G d) start (repeated (suc k) round) e, rounds_of k S leaves e))

    -- So the room covers the fill at the start and after each firing of the start list and any number of round lists, none included.
    pub room_covers : (k : ℕ) {e : G.Queue} {x : ℕ} → Room G d start round e x
        → (n : ℕ) → n ≤ length (start ++ repeated k round) → fill G (after G (initially G d) (take n (start ++ repeated k round))) e ≤ x
    room_covers zero {e} p n h =
        let S = after G (initially G d) start in
        let a = (peak_is G (initially G d) (start ++ []) e).covers n h in
        omega (arith, peak_computed G p, computed_append G (initially G d) start round e, computed_append G (initially G d) start [] e, peak_first G (fill G S e) round e)
    room_covers (suc k) p n h = (room_further k p).covers n h
