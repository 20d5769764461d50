-- The worked example K(4,3), and rows of the bench table, from the definitions alone.
use mathlib.Core.Path.{◌≡◌, refl}
use mathlib.Core.List.{List, [], ◌∷◌}
use Prim.Native.Nat.{ℕ, zero, suc}
use native.Mathlib.Omega.{arith}
use native.Mathlib.Decide.{ℕ_discrete, dec_le, dec_lt}
use lib.Dec.{lit≤, lit<}
use lib.IntN.{pos, negsuc}
use Rattle.lists.specs.Front.{at}
use Rattle.refusals.specs.First.{Lowest}
use Rattle.dataflow.specs.Net.{Net, Sound}
use Rattle.dataflow.specs.Counts.{Counts}
use Rattle.dataflow.specs.Places.{place_put}
use Rattle.dataflow.specs.Copies.{Dependence}
use Rattle.dataflow.specs.Paths.{alone, step}
use Rattle.dataflow.specs.Stuck.{Stuck}
use Rattle.dataflow.specs.Retiming.{new_delay, retimed, whole, by_hand}
use Rattle.dataflow.specs.Lists.{StartList, RoundList}
use Rattle.dataflow.specs.Runs.{initial, made, initially, after, TakenBy}
use Rattle.dataflow.specs.FirstToken.{TakesFirst, Open, FirstPath, begins, enters}
use Rattle.dataflow.specs.Loops.{Way, here, along, loop_sum}
use Rattle.dataflow.specs.Dispatch.{part, firings}
use Rattle.dataflow.specs.Move.{moved_delay}
use Rattle.dataflow.specs.Origin.{Origin, was_made, place_taken}
use Rattle.dataflow.specs.Promise.{MovePromise}
use Rattle.dataflow.specs.Refusals.{InHandRange, HandFits, MoveFits, TokenFits, negative_row}
use Rattle.dataflow.specs.Sheet.{net, delays, Below}
use Rattle.dataflow.specs.Samples.{K}
use Rattle.dataflow.proofs.Below.{upto, each_below}
use Rattle.dataflow.proofs.Decide.{by_yes, list_dec}
use Rattle.dataflow.proofs.SheetLaws.{sheet_sound, sheet_dec}

abbrev pub q_K : List ℕ
q_K = 2 ∷ 1 ∷ []

abbrev pub GK : (d T : ℕ) → Net
GK d T = net (K d T) q_K

abbrev pub d_K : (d T : ℕ) → (GK d T).Queue → ℕ
d_K d T = delays (K d T) q_K

abbrev pub queue0 : Below 2
queue0 = (0, lit< tt)

abbrev pub queue1 : Below 2
queue1 = (1, lit< tt)

-- on queue 1 firing 1 of station 1 puts its token 2 at place 5; station 0 takes it in its firing 6
place_of_K : place_put (d_K 4 3 queue1) ((GK 4 3).produced queue1) 1 2 ≡ 5
place_of_K = refl

pub origin_of_K : Origin (d_K 4 3 queue1) ((GK 4 3).produced queue1) (place_taken ((GK 4 3).consumed queue1) 6 1) (made 1 2)
origin_of_K = was_made (lit≤ tt) (lit≤ tt) (lit≤ tt) refl

-- station 1 takes two tokens: the last of them is that of copy 2 of station 0
last_token_of_K : (d T : ℕ) → Dependence (GK d T) (d_K d T) queue0 2 1 0
last_token_of_K d T = record {
  maker = 2;
  taker = 1;
  maker_first = lit≤ tt;
  taker_first = lit≤ tt;
  from = refl;
  to = refl;
  rounds = refl;
  token = record { place = 1; put = record { token = 1; first = lit≤ tt; last = lit≤ tt; place = refl }; taken = record { from = lit≤ tt; upto = lit< tt } };
}

-- on queue 1 firing 5 of station 0 takes the first token of firing 1 of station 1; firing 6 takes its last, and not its first
first_taker_of_K : TakesFirst (d_K 4 3 queue1) ((GK 4 3).produced queue1) ((GK 4 3).consumed queue1) 1 5
first_taker_of_K = record { from = lit≤ tt; upto = lit< tt }

no_first_taker_of_K : ¬ TakesFirst (d_K 4 3 queue1) ((GK 4 3).produced queue1) ((GK 4 3).consumed queue1) 1 6
no_first_taker_of_K h = omega (arith, h.from)

-- as the sheet is given station 0 is open and station 1 isn't; by the first token of copy 1 of station 0 a path enters copy 1 of station 1, with the period 5 as its sum
open_of_K : (T : ℕ) → Open (GK 4 T) (d_K 4 T) 0
open_of_K T = each_below 2 _ (λ to. absurd (omega (arith, to)), (λ to. lit≤ tt, tt))

shut_of_K : (T : ℕ) → ¬ Open (GK 4 T) (d_K 4 T) 1
shut_of_K T o = omega (arith, o queue0 refl)

first_path_of_K : (T : ℕ) → FirstPath (GK 4 T) (d_K 4 T) 0 1 1 1 5
first_path_of_K T =
    enters {u = 0} {i = 1} {h = 1} {j = 1} {S = 3} queue0 (begins {v = 0} {i = 1} (record { low = lit≤ tt; high = lit≤ tt })) (record { from = lit≤ tt; upto = lit< tt }) (lit≤ tt)

-- with q = 2: copy 1, r = -1 moves to copy 2, shift -1
move_of_K : MovePromise (GK 4 3) 0 1 (negsuc 0) 2 (negsuc 0)
move_of_K = record { copy_is = refl; shift_is = refl }

abbrev pub r_K : List ℕ
r_K = 0 ∷ 1 ∷ []

-- the retiming 0 1 moves the copy of station 1 by a round, so its last token crosses one
moved_of_K : moved_delay (GK 4 3) (whole (at r_K)) queue0 2 1 0 ≡ pos 1
moved_of_K = refl

new_delays_of_K : (new_delay (GK 4 3) (d_K 4 3) (whole (at r_K)) queue0 ≡ pos 2) × (new_delay (GK 4 3) (d_K 4 3) (whole (at r_K)) queue1 ≡ pos 2)
new_delays_of_K = (refl, refl)

-- hand -2 0 gives the same delays
hand_of_K : (new_delay (GK 4 3) (d_K 4 3) (by_hand (negsuc 1 ∷ pos 0 ∷ [])) queue0 ≡ pos 2) × (new_delay (GK 4 3) (d_K 4 3) (by_hand (negsuc 1 ∷ pos 0 ∷ [])) queue1 ≡ pos 2)
hand_of_K = (refl, refl)

-- hand 0 -1: refusal 13, place 0
negative_of_K : Lowest (negative_row (GK 4 3) (d_K 4 3) (by_hand (pos 0 ∷ negsuc 0 ∷ []))) 0
negative_of_K = record { applies = (_, refl, λ x. x); none_below = λ i h. absurd (omega arith) }

-- K(1,9) is stuck: copy 2 of station 0 and copy 1 of station 1 wait for one another
pub stuck_K : Stuck (GK 1 9) (d_K 1 9)
stuck_K = record {
  queue = queue1;
  i = 1;
  j = 2;
  sum = 5;
  path = step queue0 (alone {v = 0} {i = 2} (omega arith)) (last_token_of_K 1 9);
  closes = record {
    maker = 1;
    taker = 2;
    maker_first = lit≤ tt;
    taker_first = lit≤ tt;
    from = refl;
    to = refl;
    rounds = refl;
    token = record { place = 1; put = record { token = 1; first = lit≤ tt; last = lit≤ tt; place = refl }; taken = record { from = lit≤ tt; upto = lit< tt } };
  };
}

pub sound_K : (d T : ℕ) → Sound (GK d T)
unfolding sheet_dec ℕ_discrete dec_le dec_lt
sound_K d T = sheet_sound (K d T) q_K (by_yes (sheet_dec (K d T) q_K) tt)

pub counts_of_K : (d T : ℕ) → Counts (GK d T) (at q_K)
counts_of_K d T = record {
  balances = (sound_K d T).counts;
  least = λ x b. upto _ 2 ((tt, omega (arith, b.balanced queue0, b.positive 1 (lit< tt))), b.positive 1 (lit< tt));
}

-- the start list of K(4,3) is 0 0, the round list 0 0 1
pub start_of_K : StartList (GK 4 3) (d_K 4 3) (at r_K) 1 (0 ∷ 0 ∷ [])
unfolding list_dec ℕ_discrete dec_le dec_lt
start_of_K = by_yes (list_dec (GK 4 3) (sound_K 4 3) _ _ _) tt

pub round_of_K : RoundList (GK 4 3) (retimed (GK 4 3) (d_K 4 3) (whole (at r_K))) (0 ∷ 0 ∷ 1 ∷ [])
unfolding list_dec ℕ_discrete dec_le dec_lt
round_of_K = by_yes (list_dec (GK 4 3) (sound_K 4 3) _ _ _) tt

-- after the start list queue 0 holds what station 0 made, queue 1 the initial tokens 2 and 3; then station 1 takes the former, in order
filled_of_K : ((after (GK 4 3) (initially (GK 4 3) (d_K 4 3)) (0 ∷ 0 ∷ [])).holds queue0 ≡ made 1 1 ∷ made 2 1 ∷ []) × ((after (GK 4 3) (initially (GK 4 3) (d_K 4 3)) (0 ∷ 0 ∷ [])).holds queue1 ≡ initial 2 ∷ initial 3 ∷ [])
unfolding ℕ_discrete
filled_of_K = (refl, refl)

taken_of_K : TakenBy (GK 4 3) (d_K 4 3) (0 ∷ 0 ∷ 0 ∷ 0 ∷ 1 ∷ []) queue0 1 (made 1 1 ∷ made 2 1 ∷ [])
unfolding ℕ_discrete
taken_of_K = record { earlier = 0 ∷ 0 ∷ 0 ∷ 0 ∷ []; later = []; order = refl; number = refl; are = refl }

-- round the loop of K(4,3) the sum is 8 by the sheet's delays and by the new ones
pub loop_of_K : Way (GK 4 3) 0 0 (queue0 ∷ queue1 ∷ [])
loop_of_K = along queue0 (along queue1 here)

loop_sum_of_K : (loop_sum (GK 4 3) (d_K 4 3) (queue0 ∷ queue1 ∷ []) ≡ 8) × (loop_sum (GK 4 3) (retimed (GK 4 3) (d_K 4 3) (whole (at r_K))) (queue0 ∷ queue1 ∷ []) ≡ 8)
loop_sum_of_K = (refl, refl)

-- four firings are done: two of the start list, two of the round list, and 1 is left of that
part_of_K : firings (0 ∷ 0 ∷ []) (0 ∷ 0 ∷ 1 ∷ []) (part 2 3 4) ≡ 1 ∷ []
unfolding dec_lt dec_le
part_of_K = refl

-- what may be asked of K(4,3): the hand list -2 0, the move of copy 1 of station 0 by -1, the token 1 of firing 6 on queue 1
hand_fits_K : HandFits (GK 4 3) (negsuc 1 ∷ pos 0 ∷ [])
hand_fits_K = record { one_each = refl; in_range = in_range }
  where
    in_range : (v : ℕ) → InHandRange (by_hand (negsuc 1 ∷ pos 0 ∷ []) v)
    in_range zero = lit≤ tt
    in_range (suc zero) = lit≤ tt
    in_range (suc (suc v)) = lit≤ tt

move_fits_K : MoveFits (GK 4 3) 0 1 (negsuc 0)
move_fits_K = record { station = lit< tt; copy = record { low = lit≤ tt; high = lit≤ tt }; in_range = lit≤ tt }

token_fits_K : TokenFits (GK 4 3) 1 6 1
token_fits_K = record { queue = _; is = refl; firing_low = lit≤ tt; firing_high = lit≤ tt; token_low = lit≤ tt; token_high = lit≤ tt }
