-- Rooms that are lifted over the start list and then over the round list are the rooms of the plan.
use Prim.Native.Nat.{ℕ, ◌≤◌, ◌<◌, max}
use mathlib.Core.Path.{◌≡◌, ◌∙◌}
use mathlib.Core.List.{List, []}
use native.Mathlib.Omega.{arith}
use lib.ListN.{take}
use Rattle.lists.specs.Front.{at}
use Rattle.dataflow.specs.Net.{Net}
use Rattle.dataflow.specs.Runs.{initially}
use Rattle.dataflow.specs.Sheet.{Below}
use Rattle.dataflow.specs.Peak.{fill, Room}
use Rattle.dataflow.proofs.PeakLaws.{peak_computed, peak_first, peak_last}
use Rattle.dataflow.proofs.RoomLaws.{fill_first, room_in_parts}
use Rattle.chain.specs.Chain.{net_of, delays_of}
use Rattle.rooms.specs.Lifted.{Lifted, Covered, Peaks}
use Rattle.rooms.specs.Rooms.{BothListed, RoomsOf}

module _ {n m : ℕ} {source sink produced consumed delay new : List ℕ} {starts total : ℕ} {start round : List ℕ} (b : BothListed n m source sink produced consumed delay new starts total start round) where
  abbrev G : (time q : List ℕ) → Net
  G time q = net_of n m source sink produced consumed time q

  abbrev d : Below m → ℕ
  d = delays_of m delay

  module _ {some : List ℕ} (r : Lifted (λ e. e < m) (Peaks n m source sink produced consumed delay starts start) delay some) where
    -- what the start list leaves is covered too
    pub new_covered : Covered m new some
    new_covered e h =
        let a = r.is e h in
        let S = initially (G [] []) d in
        omega (arith, a.2, peak_computed (G [] []) (a.1 h [] []), peak_last (G [] []) S (take starts start) (e, h), b.leaves [] [] (e, h))

    pub rooms_are : {all : List ℕ} → Lifted (λ e. e < m) (Peaks n m source sink produced consumed new total round) some all → RoomsOf n m source sink produced consumed delay starts total start round all
    rooms_are {all} k = record { is = is; rest = λ e h. k.rest e (λ l. omega arith) ∙ r.rest e (λ l. omega arith) ∙ b.rest e h }
      where
        is : (e : ℕ) → e < m → (h : e < m) (time q : List ℕ) → Room (G time q) d (take starts start) (take total round) (e, h) (at all e)
        is e l h time q =
            let x = r.is e h in
            let y = k.is e h in
            let first : at delay e ≤ x.0 =
            omega (arith, peak_computed (G time q) (x.1 h time q), peak_first (G time q) (fill (G time q) (initially (G time q) d) (e, h)) (take starts start) (e, h), fill_first (G time q) d (e, h)) in
            let z : at all e ≡ max x.0 y.0 = omega (arith, x.2, y.2) in
            rw z (room_in_parts (G time q) d (delays_of m new) (take starts start) (take total round) (b.leaves time q) (x.1 h time q) (y.1 h time q))
