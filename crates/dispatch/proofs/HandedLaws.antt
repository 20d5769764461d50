-- The laws of what the dispatcher is handed.
use Prim.Native.Nat.{ℕ, zero, suc, ◌-◌, ◌%◌, ◌≤◌, ◌<◌}
use mathlib.Core.Path.{◌≡◌, refl, sym, ap, ◌∙◌}
use native.Mathlib.Decide.{dec_lt}
use native.Mathlib.Nat.{zero-add}
use native.Mathlib.Omega.{arith}
use lib.ListN.{length, take, drop}
use borrow.Author.Rules.{part_to_end}
use Rattle.dataflow.specs.Dispatch.{Part, of_start, of_round, round_place, chosen, firings}
use Rattle.dispatch.specs.Handed.{Lent, entry_at, lies_at, part_after, Handed}

-- a list's entries from a place on, where they lie
abbrev pub tail_of : (list : Lent) (place : ℕ) → Lent
tail_of list place = record {
  ref_ptr = entry_at list place;
  now = take (length list.now - place) (drop place list.now);
}

place_in_empty : (starts rounds done : ℕ) → rounds ≡ 0 → round_place starts rounds done ≡ 0
place_in_empty starts zero done e = refl
place_in_empty starts (suc n) done e = absurd (omega arith)

place_in_round : (starts rounds done : ℕ) → 1 ≤ rounds → round_place starts rounds done ≡ (done - starts) % rounds
place_in_round starts zero done h = absurd (omega arith)
place_in_round starts (suc n) done h = refl

module _ (start round : Lent) (done : ℕ) where
  in_start : done < length start.now → part_after start round done ≡ of_start done
  in_start h = go (dec_lt done (length start.now))
    where
      go : (w : Dec (done < length start.now)) → chosen (length start.now) (length round.now) done w ≡ of_start done
      go (yes l) = refl
      go (no n) = absurd (n h)

  in_round : (place : ℕ) → length start.now ≤ done → round_place (length start.now) (length round.now) done ≡ place → part_after start round done ≡ of_round place
  in_round place h e = go (dec_lt done (length start.now))
    where
      go : (w : Dec (done < length start.now)) → chosen (length start.now) (length round.now) done w ≡ of_round place
      go (yes l) = absurd (omega arith)
      go (no n) = ap of_round e

  -- what is handed, once the part is known
  handed : (rest : Lent) (p : Part) → part_after start round done ≡ p → rest.now ≡ firings start.now round.now p → rest.ref_ptr ≡ lies_at start round p → Handed start round done rest
  handed rest p e h k = record { holds = h ∙ ap (firings start.now round.now) (sym e); lies = k ∙ ap (lies_at start round) (sym e) }

  -- while fewer are done than the start list has
  pub start_handed : done < length start.now → Handed start round done (tail_of start done)
  start_handed h = handed (tail_of start done) (of_start done) (in_start h) (part_to_end start.now done) refl

  -- after that
  pub round_handed : length start.now ≤ done → 1 ≤ length round.now → Handed start round done (tail_of round ((done - length start.now) % length round.now))
  round_handed h pos = handed (tail_of round place) (of_round place) (in_round place h (place_in_round _ _ _ pos)) (part_to_end round.now place) refl
    where
      place : ℕ
      place = (done - length start.now) % length round.now

  -- an empty round list
  pub empty_handed : length start.now ≤ done → length round.now ≡ 0 → Handed start round done round
  empty_handed h e = handed round (of_round 0) (in_round 0 h (place_in_empty _ _ _ e)) refl (rw zero-add)
