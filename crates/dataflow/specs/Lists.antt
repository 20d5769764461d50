-- Back, the start list and the round list.
use Rattle.std.specs.Prelude.{◌≡◌, List, [], ◌∷◌, ◌++◌, ℕ, zero, suc, ◌+◌, ◌-◌, ◌*◌, ◌≤◌, ◌<◌}
use Rattle.dataflow.specs.Net.{Net}
use Rattle.dataflow.specs.Runs.{State, fire, initially, after, Ready}

module _ (G : Net) where
  -- c × q(v) ≥ r(v) for all v
  abbrev pub Covers : (r : ℕ → ℕ) (c : ℕ) → Type 0
  Covers r c = (v : ℕ) → v < G.stations → r v ≤ c * G.q v

  -- Back: the least such c.
  pub record Back (r : ℕ → ℕ) (c : ℕ) : Type 0 where
    pub covers : Covers r c
    pub least : (b : ℕ) → Covers r b → c ≤ b

  module _ (wanted : ℕ → ℕ) where
    -- v is the lowest-numbered station that has firings left and enough tokens on every incoming queue.
    pub record Next (S : State G) (v : ℕ) : Type 0 where
      pub station : v < G.stations
      pub left : S.fired v < wanted v
      pub ready : Ready G S v
      pub lowest : (w : ℕ) → w < v → S.fired w < wanted w → ¬ Ready G S w

    -- The list that always fires that station, until every station v has fired wanted(v) times.
    pub data FiringList : State G → List ℕ → Type 0 where
      complete : {S : State G} → ((v : ℕ) → v < G.stations → S.fired v ≡ wanted v) → FiringList S []
      next : {S : State G} {v : ℕ} {l : List ℕ} → Next S v → FiringList (fire G v S) l → FiringList S (v ∷ l)

  -- The start list fires v exactly c × q(v) - r(v) times from the sheet's delays.
  abbrev pub StartList : (d : G.Queue → ℕ) (r : ℕ → ℕ) (c : ℕ) → List ℕ → Type 0
  StartList d r c = FiringList (λ v. c * G.q v - r v) (initially G d)

  -- The round list fires v exactly q(v) times from the new delays.
  abbrev pub RoundList : (D : G.Queue → ℕ) → List ℕ → Type 0
  RoundList D = FiringList G.q (initially G D)

-- A list in the making, from the delays D.
module _ (G : Net) (D : G.Queue → ℕ) where
  -- With the firings F done, every queue into v has the tokens of one more.
  abbrev pub FedBy : (F : ℕ → ℕ) (v : ℕ) → Type 0
  FedBy F v = (e : G.Queue) → G.sink e ≡ v → suc (F v) * G.consumed e ≤ D e + F (G.source e) * G.produced e

  -- How often each station has fired after a list.
  abbrev pub fired_by : List ℕ → ℕ → ℕ
  fired_by l = (after G (initially G D) l).fired

  -- Each entry so far was the lowest-numbered station that could fire.
  pub data Prefix (wanted : ℕ → ℕ) : List ℕ → Type 0 where
    none : Prefix wanted []
    more : {l : List ℕ} {v : ℕ} → Prefix wanted l → Next G wanted (after G (initially G D) l) v → Prefix wanted (l ++ (v ∷ []))

-- a list, k times over
abbrev pub repeated : {A : Type 0} → ℕ → List A → List A
repeated zero l = []
repeated (suc k) l = l ++ repeated k l
