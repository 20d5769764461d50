-- What a chain and a round are made of.
use Rattle.std.specs.Prelude.{ℕ, ◌≡◌, List}
use Rattle.chain.specs.declared.chain.Chain.{Chain}
use Rattle.chain.specs.declared.round.Round.{Round}

-- the chain has these columns
pub record HasColumns (c : Chain) (n m : ℕ) (source sink produced consumed : List ℕ) : Type 0 where
  pub stations : c.n ≡ n
  pub queues : c.m ≡ m
  pub sources : c.source ≡ source
  pub sinks : c.sink ≡ sink
  pub produceds : c.produced ≡ produced
  pub consumeds : c.consumed ≡ consumed

-- the round is of this chain, with these counts
pub record HasCounts (r : Round) (c : Chain) (q : List ℕ) (total : ℕ) : Type 0 where
  pub chain : r.chain ≡ c
  pub counts : r.q ≡ q
  pub copies : r.total ≡ total
