-- The spectrum analyser of source document 004, from the definitions: its counts, two columns of the table in its Section IV, and the retiming that the table ends with.
use mathlib.Core.Path.{◌≡◌, refl}
use mathlib.Core.List.{List, [], ◌∷◌, ◌++◌}
use Prim.Native.Nat.{ℕ, ◌+◌, ◌≤◌}
use native.Mathlib.Omega.{arith}
use native.Mathlib.Decide.{ℕ_discrete, dec_le, dec_lt}
use lib.Dec.{lit≤, lit<}
use lib.ListN.{replicate, get_or-eq_default}
use Rattle.lists.specs.Front.{at}
use Rattle.dataflow.specs.Net.{Net, Sound}
use Rattle.dataflow.specs.Counts.{Counts}
use Rattle.dataflow.specs.Paths.{Period}
use Rattle.dataflow.specs.Retiming.{retimed, whole, PlanRetiming}
use Rattle.dataflow.specs.Search.{nothing, raise, SearchEnds}
use Rattle.dataflow.specs.Lists.{RoundList}
use Rattle.dataflow.specs.Sheet.{net, delays}
use Rattle.dataflow.specs.Samples.{analyser}
use Rattle.dataflow.proofs.Below.{Upto, upto}
use Rattle.dataflow.proofs.Decide.{by_yes, list_dec}
use Rattle.dataflow.proofs.SheetLaws.{sheet_sound, sheet_dec}
use Rattle.dataflow.proofs.PathLaws.{none_late_within}
use Rattle.dataflow.proofs.EndLaws.{ends_at_plan}
use Rattle.dataflow.proofs.SumTable.{latest, edge_dec}
use Rattle.dataflow.proofs.Computed.{computed_period, computed_lates, late_count}

abbrev q : List ℕ
q = 16 ∷ 1 ∷ 1 ∷ 1 ∷ 4 ∷ 1 ∷ []

abbrev G : Net
G = net analyser q

abbrev d : G.Queue → ℕ
d = delays analyser q

sound : Sound G
unfolding sheet_dec ℕ_discrete dec_le dec_lt
sound = sheet_sound analyser q (by_yes (sheet_dec analyser q) tt)

-- the retimings that its table comes to with the first and the last of its rises
abbrev r1 : List ℕ
r1 = 0 ∷ 0 ∷ 1 ∷ 0 ∷ 0 ∷ 0 ∷ []

abbrev r2 : List ℕ
r2 = 0 ∷ 0 ∷ 1 ∷ 0 ∷ 4 ∷ 0 ∷ []

abbrev order0 : List ℕ
order0 = replicate 16 0 ++ 3 ∷ 4 ∷ 4 ∷ 4 ∷ 4 ∷ 5 ∷ 1 ∷ 2 ∷ []

abbrev order1 : List ℕ
order1 = replicate 16 0 ++ 2 ∷ 3 ∷ 4 ∷ 4 ∷ 4 ∷ 4 ∷ 5 ∷ 1 ∷ []

abbrev order2 : List ℕ
order2 = 2 ∷ 3 ∷ 4 ∷ 0 ∷ 0 ∷ 0 ∷ 0 ∷ 4 ∷ 0 ∷ 0 ∷ 0 ∷ 0 ∷ 4 ∷ 0 ∷ 0 ∷ 0 ∷ 0 ∷ 4 ∷ 0 ∷ 0 ∷ 0 ∷ 0 ∷ 5 ∷ 1 ∷ []

is_round0 : RoundList G (retimed G d (whole (λ v. 0))) order0
unfolding list_dec ℕ_discrete dec_le dec_lt
is_round0 = by_yes (list_dec G sound _ _ _) tt

is_round1 : RoundList G (retimed G d (whole (at r1))) order1
unfolding list_dec ℕ_discrete dec_le dec_lt
is_round1 = by_yes (list_dec G sound _ _ _) tt

is_round2 : RoundList G (retimed G d (whole (at r2))) order2
unfolding list_dec ℕ_discrete dec_le dec_lt
is_round2 = by_yes (list_dec G sound _ _ _) tt

-- its columns T: the largest sum of a path that ends in the last copy of each station
column0 : Upto (λ v. latest G (retimed G d (whole (λ w. 0))) 24 v (at q v) ≡ at (1 ∷ 3 ∷ 5 ∷ 1 ∷ 2 ∷ 2 ∷ []) v) 6
unfolding latest edge_dec ℕ_discrete dec_le dec_lt
column0 = ((((((tt, refl), refl), refl), refl), refl), refl)

column1 : Upto (λ v. latest G (retimed G d (whole (at r1))) 24 v (at q v) ≡ at (1 ∷ 3 ∷ 2 ∷ 3 ∷ 4 ∷ 2 ∷ []) v) 6
unfolding latest edge_dec ℕ_discrete dec_le dec_lt
column1 = ((((((tt, refl), refl), refl), refl), refl), refl)

period0 : Period G (retimed G d (whole (λ v. 0))) 5
unfolding latest edge_dec ℕ_discrete dec_le dec_lt
period0 = computed_period G sound _ _ is_round0 (lit≤ tt)

period2 : Period G (retimed G d (whole (at r2))) 3
unfolding latest edge_dec ℕ_discrete dec_le dec_lt
period2 = computed_period G sound _ _ is_round2 (lit≤ tt)

late2 : List ℕ
late2 = 0 ∷ 0 ∷ 0 ∷ 0 ∷ 4 ∷ 0 ∷ []

-- with the target 3 our search comes in 2 rounds to the retiming that the table ends with: r = (0, 0, 1, 0, 4, 0)
search : SearchEnds G d 3 2 (at r2)
unfolding late2 late_count latest edge_dec ℕ_discrete dec_le dec_lt
search = record {
  searched =
      raise {r = at r1} (at late2)
      (raise {r = λ v. 0} {r' = at r1} (at r1) (nothing (λ v. refl)) (computed_lates G sound _ order0 is_round0 3 r1 refl ((((((tt, refl), refl), refl), refl), refl), refl)) (2, lit≤ tt) (λ v. omega arith))
      (computed_lates G sound _ order1 is_round1 3 late2 refl ((((((tt, refl), refl), refl), refl), refl), refl)) (4, lit≤ tt) raised;
  none_late = none_late_within G _ 3 period2.passed_by_none;
}
  where
    raised : (v : ℕ) → at r2 v ≡ at r1 v + at late2 v
    raised v = elim (dec_lt v 6) [
      | yes h ↦ upto (λ w. at r2 w ≡ at r1 w + at late2 w) 6 ((((((tt, refl), refl), refl), refl), refl), refl) v h
      | no h ↦ omega (arith, get_or-eq_default r2 0 {n = v} (omega arith), get_or-eq_default r1 0 {n = v} (omega arith), get_or-eq_default late2 0 {n = v} (omega arith))
    ]

plan : PlanRetiming G d 3 (at r2)
plan = ends_at_plan G sound d 3 search

counts : Counts G (at q)
counts = record {
  balances = sound.counts;
  least = λ x b.
      let p = b.positive 1 (lit< tt) in
      let b0 = b.balanced (0, lit< tt) in
      let b1 = b.balanced (1, lit< tt) in
      let b2 = b.balanced (2, lit< tt) in
      let b3 = b.balanced (3, lit< tt) in
      let b5 = b.balanced (5, lit< tt) in
      upto (λ v. at q v ≤ x v) 6 ((((((tt, omega arith), omega arith), omega arith), omega arith), omega arith), omega arith);
}
