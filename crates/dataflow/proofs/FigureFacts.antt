-- Fig. 1 of source document 001, from the definitions: its period, and that with one delay moved.
use mathlib.Core.List.{List, [], ◌∷◌}
use Prim.Native.Nat.{ℕ}
use native.Mathlib.Decide.{ℕ_discrete, dec_le, dec_lt}
use lib.Dec.{lit≤}
use lib.IntN.{pos, negsuc}
use Rattle.dataflow.specs.Net.{Net, Sound}
use Rattle.dataflow.specs.Paths.{Period}
use Rattle.dataflow.specs.Retiming.{by_hand}
use Rattle.dataflow.specs.Lists.{RoundList}
use Rattle.dataflow.specs.Promise.{HandPromise}
use Rattle.dataflow.specs.Sheet.{net, delays}
use Rattle.dataflow.specs.Samples.{figure1}
use Rattle.dataflow.proofs.Below.{each_below}
use Rattle.dataflow.proofs.Decide.{by_yes, list_dec}
use Rattle.dataflow.proofs.SheetLaws.{sheet_sound, sheet_dec}
use Rattle.dataflow.proofs.SumTable.{latest, edge_dec}
use Rattle.dataflow.proofs.Computed.{computed_period}

abbrev q : List ℕ
q = 1 ∷ 1 ∷ 1 ∷ []

abbrev G : Net
G = net figure1 q

abbrev d : G.Queue → ℕ
d = delays figure1 q

sound : Sound G
unfolding sheet_dec ℕ_discrete dec_le dec_lt
sound = sheet_sound figure1 q (by_yes (sheet_dec figure1 q) tt)

round : RoundList G d (0 ∷ 1 ∷ 2 ∷ [])
unfolding list_dec ℕ_discrete dec_le dec_lt
round = by_yes (list_dec G sound _ _ _) tt

period : Period G d 14
unfolding latest edge_dec ℕ_discrete dec_le dec_lt
period = computed_period G sound _ _ round (lit≤ tt)

-- one delay moved from C->A to A->B: r(A) = -1, period 10
period_moved : HandPromise G d 10 (by_hand (negsuc 0 ∷ pos 0 ∷ pos 0 ∷ [])) 10
unfolding list_dec latest edge_dec ℕ_discrete dec_le dec_lt
period_moved = record {
  legal = each_below 4 _ (tt, (tt, (tt, (tt, tt))));
  period = computed_period G sound _ (0 ∷ 1 ∷ 2 ∷ []) (by_yes (list_dec G sound _ _ _) tt) (lit≤ tt);
  within = lit≤ tt;
}
