-- Side by side a queue can hold more than its room: while station 0 waits for the slow station 1, the tokens of both copies of the quick station 2 stand on queue 0.
use Prim.Native.Nat.{ℕ}
use mathlib.Core.Path.{◌≡◌, refl}
use mathlib.Core.List.{List, [], ◌∷◌}
use native.Mathlib.Decide.{ℕ_discrete, dec_le, dec_lt}
use lib.Dec.{lit<}
use Rattle.lists.specs.Front.{at}
use Rattle.dataflow.specs.Net.{Net, Sound}
use Rattle.dataflow.specs.Runs.{made, initially}
use Rattle.dataflow.specs.Lists.{RoundList}
use Rattle.dataflow.specs.Peak.{Room}
use Rattle.dataflow.specs.Times.{TimeTable, entry}
use Rattle.dataflow.specs.Timed.{Event, starts, finishes, Timeline, FoundBy}
use Rattle.dataflow.specs.Sheet.{net, delays, Below}
use Rattle.dataflow.specs.Samples.{held_up}
use Rattle.dataflow.proofs.Below.{upto}
use Rattle.dataflow.proofs.Decide.{by_yes, list_dec}
use Rattle.dataflow.proofs.SheetLaws.{sheet_sound, sheet_dec}
use Rattle.dataflow.proofs.SumTable.{latest, edge_dec}
use Rattle.dataflow.proofs.Computed.{computed_times}
use Rattle.dataflow.proofs.RoomLaws.{computed_room}
use Rattle.dataflow.proofs.TimelineLaws.{by_instant, sorted, insert, timeline_exists}

abbrev q : List ℕ
q = 2 ∷ 1 ∷ 2 ∷ []

abbrev G : Net
G = net held_up q

abbrev d : Below 2 → ℕ
d = delays held_up q

abbrev queue0 : Below 2
queue0 = (0, lit< tt)

sound : Sound G
unfolding sheet_dec ℕ_discrete dec_le dec_lt
sound = sheet_sound held_up q (by_yes (sheet_dec held_up q) tt)

abbrev list : List ℕ
list = 1 ∷ 2 ∷ 0 ∷ 2 ∷ 0 ∷ []

round : RoundList G d list
unfolding list_dec ℕ_discrete dec_le dec_lt
round = by_yes (list_dec G sound _ _ _) tt

-- one station at a time each token of station 2 is taken before the next is put
room_one : Room G d [] list queue0 1
unfolding ℕ_discrete
room_one = computed_room G d [] list queue0

-- by the time table stations 1 and 2 start at 0, and station 0 at 5
abbrev table : ℕ → ℕ → ℕ
table = entry (at q) (5 ∷ 5 ∷ 0 ∷ 0 ∷ 0 ∷ [])

times : TimeTable G d table
unfolding latest edge_dec ℕ_discrete dec_le dec_lt
times = computed_times G sound d _ round table (upto _ 3 (((tt, upto _ 2 ((tt, refl), refl)), upto _ 1 (tt, refl)), upto _ 2 ((tt, refl), refl)))

abbrev order : List Event
order = starts 1 1 ∷ starts 2 1 ∷ starts 2 2 ∷ finishes 2 1 ∷ finishes 2 2 ∷ finishes 1 1 ∷ starts 0 1 ∷ starts 0 2 ∷ finishes 0 1 ∷ finishes 0 2 ∷ []

order_is : (by_instant G sound d table list round).list ≡ order
unfolding by_instant sorted insert ℕ_discrete dec_le dec_lt
order_is = refl

timeline : Timeline G d table [] order
timeline = rw order_is at (timeline_exists G sound d table _ round)

-- copy 1 of station 0 finds two tokens on queue 0
found : FoundBy G (initially G d) order queue0 1 (made 1 1 ∷ made 2 1 ∷ [])
unfolding ℕ_discrete
found = record {
  earlier = starts 1 1 ∷ starts 2 1 ∷ starts 2 2 ∷ finishes 2 1 ∷ finishes 2 2 ∷ finishes 1 1 ∷ [];
  later = starts 0 2 ∷ finishes 0 1 ∷ finishes 0 2 ∷ [];
  order = refl;
  are = refl;
}

-- all of it: with this round list the queue has room for one token; and in this order by the time table it holds two
more_side_by_side : (RoundList G d list × Room G d [] list queue0 1) × (TimeTable G d table × (Timeline G d table [] order × FoundBy G (initially G d) order queue0 1 (made 1 1 ∷ made 2 1 ∷ [])))
more_side_by_side = ((round, room_one), (times, (timeline, found)))
