-- Rows of the refusal table at work: those of the bench table, and an example of each other.
use mathlib.Core.Path.{◌≡◌, refl}
use mathlib.Core.List.{[], ◌∷◌}
use Prim.Native.Nat.{ℕ}
use native.Mathlib.Omega.{arith}
use native.Mathlib.Decide.{ℕ_discrete, dec_le, dec_lt}
use lib.Dec.{lit≤, lit<}
use lib.IntN.{pos, negsuc}
use Rattle.refusals.specs.First.{Lowest}
use Rattle.dataflow.specs.Net.{Net}
use Rattle.dataflow.specs.Paths.{alone}
use Rattle.dataflow.specs.Retiming.{retimed, by_hand}
use Rattle.dataflow.specs.Refusals.{Joined, here, along, against, apart_row, unbalanced_row, counts_row, hand_row, move_row, token_row, slow_row, stuck_row, retiming_row}
use Rattle.dataflow.specs.Sheet.{net, delays}
use Rattle.dataflow.specs.Samples.{sheet, lone, queue}
use Rattle.dataflow.proofs.Decide.{by_yes, list_dec}
use Rattle.dataflow.proofs.BenchFacts.{GK, d_K, sound_K, stuck_K}
use Rattle.dataflow.proofs.SumTable.{latest, edge_dec}
use Rattle.dataflow.proofs.NumberLaws.{number_of_lem}
use Rattle.dataflow.proofs.Computed.{computed_period}

-- 6: two stations and no queue
abbrev apart_net : Net
apart_net = net (sheet (1 ∷ 1 ∷ []) [] 1) (1 ∷ 1 ∷ [])

only_itself : {u v : ℕ} → Joined apart_net u v → u ≡ v
only_itself here = refl
only_itself (along e j) = absurd (omega (arith, e.1))
only_itself (against e j) = absurd (omega (arith, e.1))

refused_6 : (apart_row apart_net).applies 0
refused_6 h = omega (arith, only_itself (h 0 1 (lit< tt) (lit< tt)))

-- 16: one self-queue, rates 1 and 2
refused_16 : Lowest (unbalanced_row (net (lone 1 (queue 0 0 1 2 0 ∷ []) 1) (1 ∷ []))) 0
refused_16 = record {
  applies = ((0, lit< tt), number_of_lem 1 0 (lit< tt), λ x b. omega (arith, b.balanced (0, lit< tt) 0 (number_of_lem 1 0 (lit< tt)) (lit≤ tt), b.positive 0 (lit< tt)));
  none_below = λ i h. absurd (omega arith);
}

-- 7: counts 1, 64 and 4,096
refused_7 : (counts_row (net (sheet (1 ∷ 1 ∷ 1 ∷ []) (queue 0 1 64 1 0 ∷ queue 1 2 64 1 0 ∷ []) 1) (1 ∷ 1 ∷ 1 ∷ []))).applies 0
refused_7 x b few = omega (arith, b.balanced (0, lit< tt), b.balanced (1, lit< tt), b.positive 0 (lit< tt))

-- 8: K(1,9)
refused_8 : (stuck_row (GK 1 9) (d_K 1 9)).applies 0
refused_8 = stuck_K

-- 9: one station, time 7, no queue, T 6
refused_9 : (retiming_row (net (lone 7 [] 6) (1 ∷ [])) (delays (lone 7 [] 6) (1 ∷ [])) 6).applies 0
refused_9 r ok = omega (arith, ok.within 0 1 0 1 7 (alone {v = 0} {i = 1} (omega arith)))

-- 12: a hand list of one entry for two stations; copy 3 of a station with two
refused_12 : (hand_row (GK 4 3) (pos 0 ∷ [])).applies 0
refused_12 f = omega (arith, f.one_each)

refused_12_move : (move_row (GK 4 3) 0 3 (negsuc 0)).applies 0
refused_12_move f = omega (arith, f.copy.high)

-- 14: K(4,3), hand 0 0 has period 5
refused_14 : (slow_row (GK 4 3) (retimed (GK 4 3) (d_K 4 3) (by_hand (pos 0 ∷ pos 0 ∷ []))) 3).applies 0
unfolding list_dec latest edge_dec ℕ_discrete dec_le dec_lt
refused_14 = (5, computed_period (GK 4 3) (sound_K 4 3) _ (0 ∷ 0 ∷ 1 ∷ []) (by_yes (list_dec (GK 4 3) (sound_K 4 3) _ _ _) tt) (lit≤ tt), lit< tt)

-- 15: the firing 0
refused_15 : (token_row (GK 4 3) 0 0 1).applies 0
refused_15 f = omega (arith, f.firing_low)
