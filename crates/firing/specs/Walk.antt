-- The forward walk over the copies of a round. Copies are counted from 0 here, as their entries in the time table are.
use Rattle.std.specs.Prelude.{ℕ, ◌+◌, ◌-◌, ◌*◌, ◌/◌, ◌≤◌, ◌<◌, ◌^◌, ◌≡◌, List, ◌⊎◌, length, set}
use Rattle.lists.specs.Front.{at}
use Rattle.dataflow.specs.Counts.{sum}

-- nothing later than the start of the copy before it was pushed into the copy with this entry
pub record Follows (copy entry : ℕ) (table : List ℕ) : Type 0 where
  pub second : 1 ≤ copy
  pub low : at table entry ≤ at table (entry - 1)

-- The finish goes to the copy that takes the token at this place of its queue, where that is one of the `count` copies of this round, whose entries stand from `from` on, and the entry has
-- nothing as late.
pub record Gives (token consumed from count finish : ℕ) (before after : List ℕ) : Type 0 where
  pub given : token < count * consumed → at before (from + token / consumed) < finish → after ≡ set before (from + token / consumed) finish
  pub beyond : count * consumed ≤ token → after ≡ before
  pub as_late : finish ≤ at before (from + token / consumed) → after ≡ before

-- the place on queue e of the first token that the copy puts there
abbrev pub first_token : (produced delay : List ℕ) (copy e : ℕ) → ℕ
first_token produced delay copy e = at delay e + copy * at produced e

-- the entry of the copy that takes it
abbrev pub taker_entry : (sink produced consumed delay q : List ℕ) (copy e : ℕ) → ℕ
taker_entry sink produced consumed delay q copy e = sum (at sink e) (at q) + first_token produced delay copy e / at consumed e

module _ (source sink produced consumed delay q : List ℕ) (v copy finish : ℕ) where
  -- queue e leaves v, and the first token is taken in this round
  pub record Hands (e : ℕ) : Type 0 where
    pub from : at source e ≡ v
    pub inside : first_token produced delay copy e < at q (at sink e) * at consumed e

  -- x, in this entry, is the finish that a queue below `bound` handed on
  pub record Given (bound entry x : ℕ) : Type 0 where
    pub queue : ℕ
    pub below : queue < bound
    pub hands : Hands queue
    pub to : entry ≡ taker_entry sink produced consumed delay q copy queue
    pub is : x ≡ finish

  -- The finish is pushed along every queue below `bound` that hands it on: the taker's entry becomes the larger of what it was and the finish, and every other stays.
  pub record Pushes (bound : ℕ) (before after : List ℕ) : Type 0 where
    pub long : length after ≡ length before
    pub rises : (k : ℕ) → at before k ≤ at after k
    pub reached : (e : ℕ) → e < bound → Hands e → finish ≤ at after (taker_entry sink produced consumed delay q copy e)
    pub is : (k : ℕ) → (at after k ≡ at before k) ⊎ Given bound k (at after k)

-- a table in the making that has an entry for the copy, with starts that are small enough
pub record Walkable (n : ℕ) (delay q : List ℕ) (v copy : ℕ) (table : List ℕ) : Type 0 where
  pub here : v < n
  pub left : copy < at q v
  pub delays : (e : ℕ) → at delay e < 2 ^ 30
  pub long : length table ≡ 256
  pub starts : (k : ℕ) → at table k ≤ 16777216

-- One copy of v: it starts with the copy before it, or else its entry has its start already, and its finish, one time of 16 bits later, is pushed on.
pub record Walks (m : ℕ) (source sink produced consumed delay time q : List ℕ) (v copy : ℕ) (before after : List ℕ) : Type 0 where
  pub follows : Follows copy (sum v (at q) + copy) before → after ≡ set before (sum v (at q) + copy) (at before (sum v (at q) + copy - 1))
  pub leads : ¬ Follows copy (sum v (at q) + copy) before → Pushes source sink produced consumed delay q v copy (at before (sum v (at q) + copy) + at time v) m before after
  pub time_fits : ¬ Follows copy (sum v (at q) + copy) before → at time v ≤ 65535
