-- The laws of what a time table tells: the latest finish and the late copies, found step by step.
use Prim.Native.Nat.{ℕ, zero, suc, ◌+◌, ◌-◌, ◌≤◌, ◌<◌}
use mathlib.Core.Path.{◌≡◌, refl}
use mathlib.Core.Bool.{Bool, true, false}
use mathlib.Core.List.{List}
use mathlib.Core.Logic.{◌⊎◌}
use native.Mathlib.Omega.{arith}
use native.Mathlib.Numerals.{add-one}
use lib.Dec.{ltb}
use lib.ListN.{length, take, drop, length-drop}
use Rattle.std.proofs.Common.{get_or-drop}
use borrow.Author.Tests.{ltb-true, ltb-false}
use Rattle.std.specs.List.{count_by, All}
use Rattle.std.proofs.lemmas.Grind.{get_or_default_zero}
use Rattle.std.proofs.lemmas.List.Elements.{All-take, All-drop}
use Rattle.std.proofs.lemmas.List.Sums.{count_by_more_no, count_by_more_yes}
use Rattle.lists.specs.Front.{at}
use Rattle.dataflow.specs.Counts.{sum}
use Rattle.dataflow.specs.Search.{none, this, other}
use Rattle.dataflow.proofs.SumLaws.{sum_before}
use Rattle.firing.specs.Late.{Readable, end_of, last_end, EndsAfter}

-- a copy's place is within the table
pub place_of : (n : ℕ) {q base table : List ℕ} → Readable n q base table → (v : ℕ) → v < n → at base v + at q v ≤ 256
place_of n {q} r v h = omega (arith, r.begins.is v (omega arith), sum_before (at q) v n h, r.fits)

-- and behind its copies those of the next station begin
pub next_place : (n : ℕ) {q base table : List ℕ} → Readable n q base table → (v : ℕ) → v < n → (at base (v + 1) ≡ at base v + at q v) × (at base (v + 1) ≤ 256)
next_place n {q} {base} r v h =
    let next : at base (v + 1) ≡ at base v + at q v = rw (r.begins.is v (omega arith), r.begins.is (v + 1) (omega arith), add-one v) refl in
    (next, omega (arith, place_of n r v h))

-- every start is small
pub small_starts : (n : ℕ) {q base table : List ℕ} → Readable n q base table → (from count : ℕ) → All (λ x. x ≤ 16777216) (take count (drop from table))
small_starts n {table = table} r from count =
    All-take (λ x. x ≤ 16777216) count (drop from table) (All-drop (λ x. x ≤ 16777216) from table (λ k d h. rw (get_or_default_zero table k d h) (r.starts k)))

-- the latest finish of the first v stations, and 0 of none
pub record EndSoFar (q time table : List ℕ) (v latest : ℕ) : Type 0 where
  pub above : (u : ℕ) → u < v → last_end q time table u ≤ latest
  pub reached : (latest ≡ 0) ⊎ ((u : ℕ) × (u < v) × (latest ≡ last_end q time table u))

-- a copy with this start finishes after the target
abbrev pub ends_late : (target time start : ℕ) → Bool
ends_late target time start = ltb target (start + time)

module _ (target from time : ℕ) (table : List ℕ) where
  abbrev late : ℕ → Bool
  late = ends_late target time

  abbrev starts : List ℕ
  starts = drop from table

  -- the first i of the copies whose starts stand from here on, counted by their starts
  pub ends_counted : (i : ℕ) → from + i ≤ length table → EndsAfter target from time i table (count_by late (take i starts))
  ends_counted zero h = none
  ends_counted (suc i) h = go (ends_counted i (omega arith)) (late (at starts i)) refl
    where
      room : i < length starts
      room = omega (arith, length-drop from table)

      same : end_of from time table (suc i) ≡ at starts i + time
      same = let e : from + (suc i - 1) ≡ from + i = omega arith in rw (e, get_or-drop) refl

      go : EndsAfter target from time i table (count_by late (take i starts)) → (b : Bool) → late (at starts i) ≡ b
          → EndsAfter target from time (suc i) table (count_by late (take (suc i) starts))
      go before true e = rw (← add-one i, count_by_more_yes late starts i 0 room e, add-one (count_by late (take i starts)), add-one i) (this before (omega (arith, same, ltb-true _ _ e)))
      go before false e = rw (← add-one i, count_by_more_no late starts i 0 room e, add-one i) (other before (λ l. omega (arith, same, ltb-false _ _ e)))

-- the copies of v stand from its base to the next one
pub lates_of_station : (n : ℕ) {q base table : List ℕ} → Readable n q base table → length table ≡ 256 → (time : List ℕ) (target v ticks late : ℕ) → v < n → ticks ≡ at time v
    → late ≡ count_by (ends_late target ticks) (take (at base (v + 1) - at base v) (drop (at base v) table)) → EndsAfter target (sum v (at q)) (at time v) (at q v) table late
lates_of_station n {q} {base} {table} r long time target v ticks late h t l =
    let from : at base v ≡ sum v (at q) = r.begins.is v (omega arith) in
    let count : at base (v + 1) - at base v ≡ at q v = omega (arith, next_place n r v h) in
    rw (l, count, from, t) (ends_counted target (sum v (at q)) (at time v) table (at q v) (omega (arith, place_of n r v h)))
