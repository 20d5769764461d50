-- A legal retiming of a sheet that isn't stuck isn't stuck, and both lists can always be completed.
use mathlib.Core.Path.{ap}
use mathlib.Core.List.{List}
use mathlib.Core.Logic.{inl, inr}
use Prim.Native.Nat.{ℕ, ◌-◌, ◌*◌, ◌≤◌, ◌<◌}
use native.Mathlib.Omega.{arith}
use native.Mathlib.Decide.{dec_le}
use lib.IntN.{ℤ}
use Rattle.dataflow.specs.Net.{Net, Sound}
use Rattle.dataflow.specs.Lists.{Covers, StartList, RoundList}
use Rattle.dataflow.specs.Stuck.{Stuck, RoundFires}
use Rattle.dataflow.specs.Retiming.{Legal, retimed, whole}
use Rattle.dataflow.proofs.WholeLaws.{retimed_whole}
use Rattle.dataflow.proofs.RankLaws.{round_ranked, ranked_not_stuck}
use Rattle.dataflow.proofs.CompleteLaws.{list_completes}
use Rattle.dataflow.proofs.StuckLaws.{counted, fires_or_stuck, legal_ranked}
use Rattle.dataflow.proofs.RepeatLaws.{start_leaves}

module _ (G : Net) (W : Sound G) (d : G.Queue → ℕ) (free : ¬ Stuck G d) where
  fires : RoundFires G d
  fires = elim (fires_or_stuck G W d) [ inl f ↦ f | inr s ↦ absurd (free s) ]

  -- Source document 004, Theorem 11, for a retiming of either sign.
  pub legal_retiming_not_stuck : (r : ℕ → ℤ) → Legal G d r → ¬ Stuck G (retimed G d r)
  legal_retiming_not_stuck r legal = let k = legal_ranked G W d fires r legal in ranked_not_stuck G W (retimed G d r) k.0 k.1

  pub round_list_completes : (r : ℕ → ℤ) → Legal G d r → (l : List ℕ) × RoundList G (retimed G d r) l
  round_list_completes r legal =
      let k = legal_ranked G W d fires r legal in
      list_completes G W (retimed G d r) G.q (counted G W) k.0 k.1 (λ e. omega (arith, W.counts.balanced e))

  -- whatever c covers the retiming, back among them
  pub start_list_completes : (r : ℕ → ℕ) → Legal G d (whole r) → (c : ℕ) → Covers G r c → (l : List ℕ) × StartList G d r c l
  start_list_completes r legal c covers =
      list_completes G W d (λ v. c * G.q v - r v) real _ (round_ranked G W d fires)
      (λ e. omega (arith, start_leaves G W d (retimed G d (whole r)) r c (retimed_whole G d r legal) covers e))
    where
      real : (v : ℕ) → 1 ≤ c * G.q v - r v → v < G.stations
      real v a = elim (dec_le G.stations v) [ yes b ↦ absurd (omega (arith, ap (λ (x : ℕ). c * x) (W.beyond v b))) | no b ↦ omega arith ]
