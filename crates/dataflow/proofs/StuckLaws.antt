-- Stuck in the one wording is stuck in the other; the copies of a legal retiming have ranks where the sheet isn't stuck.
use mathlib.Core.List.{List}
use mathlib.Core.Logic.{◌⊎◌, inl, inr}
use Prim.Native.Nat.{ℕ, ◌*◌, ◌≤◌, ◌<◌}
use native.Mathlib.Nat.{le_refl, mul-le-mul_left}
use native.Mathlib.Omega.{arith}
use lib.IntN.{ℤ}
use Rattle.dataflow.specs.Net.{Net, Sound}
use Rattle.dataflow.specs.Counts.{sum}
use Rattle.dataflow.specs.Lists.{RoundList}
use Rattle.dataflow.specs.Stuck.{Stuck, RoundFires}
use Rattle.dataflow.specs.Retiming.{Legal, retimed}
use Rattle.dataflow.proofs.SumLaws.{sum_above}
use Rattle.dataflow.proofs.WholeLaws.{lift, lifted}
use Rattle.dataflow.proofs.CopyLaws.{copy_station}
use Rattle.dataflow.proofs.StallLaws.{stuck_of}
use Rattle.dataflow.proofs.RankLaws.{Ranked, round_ranked, ranked_not_stuck, retimed_ranked}
use Rattle.dataflow.proofs.ListLaws.{list_run, list_fired}
use Rattle.dataflow.proofs.CompleteLaws.{Stalled, complete_or_stalled}

module _ (G : Net) (W : Sound G) where
  pub counted : (v : ℕ) → 1 ≤ G.q v → v < G.stations
  counted v h = copy_station G W {v = v} {i = 1} (omega arith)

  abbrev pub round_of_list : (D : G.Queue → ℕ) (l : List ℕ) → RoundList G D l → RoundFires G D
  round_of_list D l h = record { order = l; run = list_run G G.q h; all_fired = list_fired G G.q h }

  pub fires_or_stuck : (D : G.Queue → ℕ) → RoundFires G D ⊎ Stuck G D
  fires_or_stuck D = go (complete_or_stalled G W D G.q counted)
    where
      go : ((l : List ℕ) × RoundList G D l) ⊎ Stalled G G.q D → RoundFires G D ⊎ Stuck G D
      go (inl t) = inl (round_of_list D t.0 t.1)
      go (inr s) = inr (stuck_of G W D s.fired s.short (record { v = s.v; i = G.q s.v; undone = s.left; high = le_refl _ }))

  -- A loop of delay 0: exactly when one round can't be fired one station at a time.
  pub stuck_cannot_fire : (D : G.Queue → ℕ) → Stuck G D → ¬ RoundFires G D
  stuck_cannot_fire D s f = ranked_not_stuck G W D _ (round_ranked G W D f) s

  pub cannot_fire_stuck : (D : G.Queue → ℕ) → ¬ RoundFires G D → Stuck G D
  cannot_fire_stuck D h = elim (fires_or_stuck D) [ inl f ↦ absurd (h f) | inr s ↦ s ]

  -- ranks after a legal retiming of either sign
  pub legal_ranked : (d : G.Queue → ℕ) → RoundFires G d → (r : ℕ → ℤ) → Legal G d r → (k : ℕ) × Ranked G (retimed G d r) G.q k
  legal_ranked d f r legal =
      (_, retimed_ranked G W d _ (round_ranked G W d f) (retimed G d r) (lift G r) M (lifted G d W r legal) high)
    where
      M : ℕ
      M = sum G.stations (lift G r)

      high : (v : ℕ) → 1 ≤ G.q v → lift G r v ≤ M * G.q v
      high v h = omega (arith, sum_above G.stations (lift G r) v (counted v h), mul-le-mul_left M h)
