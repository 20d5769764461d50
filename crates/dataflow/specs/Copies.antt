-- Copies, and the dependences between them.
use Rattle.std.specs.Prelude.{◌≡◌, ℕ, ◌+◌, ◌-◌, ◌/◌, ◌%◌, ◌≤◌}
use Rattle.dataflow.specs.Net.{Net}
use Rattle.dataflow.specs.Places.{Depends}

-- Firing f of a station of count q belongs to this copy ..
abbrev pub copy_of : (q f : ℕ) → ℕ
copy_of q f = (f - 1) % q + 1

-- .. of this round; rounds are counted from 0.
abbrev pub round_of : (q f : ℕ) → ℕ
round_of q f = (f - 1) / q

module _ (G : Net) where
  -- Station v has a copy i.
  pub record Copy (v i : ℕ) : Type 0 where
    pub low : 1 ≤ i
    pub high : i ≤ G.q v

  -- Along queue e, with the delays D, copy j of the sink depends on copy i of the source with delay k, the number of rounds between them:
  -- some firing of the one takes a token that some firing of the other puts.
  pub record Dependence (D : G.Queue → ℕ) (e : G.Queue) (i j k : ℕ) : Type 0 where
    pub maker : ℕ
    pub taker : ℕ
    pub maker_first : 1 ≤ maker
    pub taker_first : 1 ≤ taker
    pub token : Depends (D e) (G.produced e) (G.consumed e) maker taker
    pub from : copy_of (G.q (G.source e)) maker ≡ i
    pub to : copy_of (G.q (G.sink e)) taker ≡ j
    pub rounds : round_of (G.q (G.source e)) maker + k ≡ round_of (G.q (G.sink e)) taker
