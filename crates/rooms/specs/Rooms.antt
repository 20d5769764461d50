-- The rooms of a plan's queues.
use Rattle.std.specs.Prelude.{ℕ, ◌≤◌, ◌<◌, ◌≡◌, List, take}
use Rattle.lists.specs.Front.{at}
use Rattle.lists.specs.Filled.{Filled}
use Rattle.dataflow.specs.Runs.{initially, after}
use Rattle.dataflow.specs.Sheet.{Below}
use Rattle.dataflow.specs.Peak.{fill, Room}
use Rattle.chain.specs.Chain.{net_of, delays_of}
use Rattle.rooms.specs.Lifted.{Listed}

-- Both lists stand in the first entries of two lent lists. The start list can be fired from the sheet's delays, 0 beyond the last queue, and leaves the new ones, from which the round list can be fired.
pub record BothListed (n m : ℕ) (source sink produced consumed delay new : List ℕ) (starts total : ℕ) (start round : List ℕ) : Type 0 where
  pub rest : (e : ℕ) → m ≤ e → at delay e ≡ 0
  pub start_list : Listed n m source sink produced consumed delay starts start
  pub leaves : (time q : List ℕ) (e : Below m) → let G = net_of n m source sink produced consumed time q in fill G (after G (initially G (delays_of m delay)) (take starts start)) e ≡ at new e.0
  pub round_list : Listed n m source sink produced consumed new total round

-- for each queue its room, and 0 beyond the last
abbrev pub RoomsOf : (n m : ℕ) (source sink produced consumed delay : List ℕ) (starts total : ℕ) (start round room : List ℕ) → Type 0
RoomsOf n m source sink produced consumed delay starts total start round =
    Filled (λ e x. (h : e < m) (time q : List ℕ) → Room (net_of n m source sink produced consumed time q) (delays_of m delay) (take starts start) (take total round) (e, h) x) m
