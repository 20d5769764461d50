-- The lists of a plan, written to lent buffers.
use Rattle.std.specs.Prelude.{ℕ, ◌<◌, ◌^◌, ◌≡◌, List, ◌++◌, length, drop}
use Rattle.lists.specs.Front.{at}
use Rattle.dataflow.specs.Runs.{initially}
use Rattle.dataflow.specs.Lists.{FiringList}
use Rattle.chain.specs.Chain.{net_of, delays_of}
use Rattle.firing.specs.Fire.{Wanted}

-- what firing a list asks for
pub record Fireable (n : ℕ) (delay wanted : List ℕ) (total : ℕ) : Type 0 where
  pub delays : (e : ℕ) → at delay e < 2 ^ 30
  pub wants : Wanted n wanted total

module _ (n m : ℕ) (source sink produced consumed delay wanted : List ℕ) where
  -- l is the list that fires each station as often as wanted
  abbrev pub IsList : (time q l : List ℕ) → Type 0
  IsList time q l = FiringList (net_of n m source sink produced consumed time q) (at wanted) (initially (net_of n m source sink produced consumed time q) (delays_of m delay)) l

  -- the times and the counts of the stations play no part
  abbrev pub ListOf : List ℕ → Type 0
  ListOf l = (time q : List ℕ) → IsList time q l

  -- there is such a list, for some times and counts
  abbrev pub Completes : Type 0
  Completes = (time : List ℕ) × (q : List ℕ) × (l : List ℕ) × IsList time q l

  -- the list stands in the first entries, and the others are as they were
  pub record Written (before after : List ℕ) : Type 0 where
    pub list : List ℕ
    pub is : ListOf list
    pub stored : after ≡ list ++ drop (length list) before
