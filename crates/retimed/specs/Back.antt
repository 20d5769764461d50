-- Back, and the firings of the start list.
use Rattle.std.specs.Prelude.{ℕ, ◌+◌, ◌*◌, ◌≤◌, ◌<◌, ◌≡◌, List}
use Rattle.lists.specs.Front.{at}
use Rattle.lists.specs.Filled.{Filled}

abbrev pub CoversAll : (n : ℕ) (q retiming : List ℕ) (c : ℕ) → Type 0
CoversAll n q retiming c = (v : ℕ) → v < n → at retiming v ≤ c * at q v

-- c is the least number of rounds that make up for the retiming at every station
pub record BackOf (n : ℕ) (q retiming : List ℕ) (c : ℕ) : Type 0 where
  pub covers : CoversAll n q retiming c
  pub least : (b : ℕ) → CoversAll n q retiming b → c ≤ b

-- counts and a retiming within limits
pub record Small (n : ℕ) (q retiming : List ℕ) : Type 0 where
  pub few : n ≤ 32
  pub positive : (v : ℕ) → v < n → 1 ≤ at q v
  pub counts : (v : ℕ) → v < n → at q v ≤ 256
  pub retimings : (v : ℕ) → v < n → at retiming v ≤ 65280

-- how often each station fires in the start list: c × q(v) - r(v), and 0 beyond the last station
abbrev pub StartFirings : (n : ℕ) (q retiming : List ℕ) (back : ℕ) (firings : List ℕ) → Type 0
StartFirings n q retiming back firings = Filled (λ v x. x + at retiming v ≡ back * at q v) n firings
