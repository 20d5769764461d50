-- Rounds of search.
use Rattle.std.specs.Prelude.{◌≡◌, ℕ, suc, ◌+◌, ◌≤◌}
use Rattle.dataflow.specs.Net.{Net}
use Rattle.dataflow.specs.Paths.{Late}
use Rattle.dataflow.specs.Retiming.{retimed, whole}

-- k of the numbers 1 to m are such that P holds.
pub data HowMany (P : ℕ → Type 0) : (m k : ℕ) → Type 0 where
  none : HowMany P 0 0
  this : {m k : ℕ} → HowMany P m k → P (suc m) → HowMany P (suc m) (suc k)
  other : {m k : ℕ} → HowMany P m k → ¬ P (suc m) → HowMany P (suc m) k

module _ (G : Net) (d : G.Queue → ℕ) (T : ℕ) where
  -- A copy is late under the retiming r.
  abbrev pub LateUnder : (r : ℕ → ℕ) (v i : ℕ) → Type 0
  LateUnder r = Late G (retimed G d (whole r)) T

  -- k rounds, each of which raised something, lead from r all 0 to r.
  pub data Searched : (k : ℕ) (r : ℕ → ℕ) → Type 0 where
    nothing : {r : ℕ → ℕ} → ((v : ℕ) → r v ≡ 0) → Searched 0 r
    -- every r(v) rises at once by the number of late copies of v, and some v has one
    raise : {k : ℕ} {r r' : ℕ → ℕ} (late : ℕ → ℕ) → Searched k r → ((v : ℕ) → HowMany (LateUnder r v) (G.q v) (late v)) → (v : ℕ) × (1 ≤ late v)
        → ((v : ℕ) → r' v ≡ r v + late v) → Searched (suc k) r'

  -- The search ends at r: k rounds raised something before none was late.
  pub record SearchEnds (k : ℕ) (r : ℕ → ℕ) : Type 0 where
    pub searched : Searched k r
    pub none_late : (v i : ℕ) → ¬ LateUnder r v i
