-- What the search finds.
use Rattle.std.specs.Prelude.{ℕ, ◌≤◌, ◌<◌, ◌≡◌, List, ℤ, pos, Option, Some, None}
use Rattle.lists.specs.Front.{at}
use Rattle.dataflow.specs.Paths.{Period}
use Rattle.dataflow.specs.Retiming.{whole, new_delay, Serves, PlanRetiming}
use Rattle.dataflow.specs.Search.{SearchEnds}
use Rattle.chain.specs.Chain.{net_of, delays_of}
use Rattle.firing.specs.Times.{Tabled}
use Rattle.search.specs.declared.Found.{Found}

module _ (n m : ℕ) (source sink produced consumed delay time q : List ℕ) (total target : ℕ) where
  -- the plan's retiming, the rounds of the search that ends at it, the new delays, their period and their time table
  pub record Retimes (r : Found) : Type 0 where
    pub retiming : PlanRetiming (net_of n m source sink produced consumed time q) (delays_of m delay) target (at r.retiming)
    pub rounds : SearchEnds (net_of n m source sink produced consumed time q) (delays_of m delay) target r.rounds (at r.retiming)
    pub delays : (e : ℕ) (h : e < m) → new_delay (net_of n m source sink produced consumed time q) (delays_of m delay) (whole (at r.retiming)) (e, h) ≡ pos (at r.delay e)
    pub rest : (e : ℕ) → m ≤ e → at r.delay e ≡ 0
    pub period : Period (net_of n m source sink produced consumed time q) (delays_of m r.delay) r.period
    pub table : Tabled n m source sink produced consumed r.delay time q total r.table

  -- no whole numbers serve
  pub record NoneServes : Type 0 where
    pub none : (z : ℕ → ℤ) → Serves (net_of n m source sink produced consumed time q) (delays_of m delay) target z → ⊥

  abbrev pub Searches : Option Found → Type 0
  Searches (Some r) = Retimes r
  Searches None = NoneServes
