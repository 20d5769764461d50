-- The plan that is shown, with the lists that were written, keeps the promise.
use Prim.Native.Nat.{ℕ, ◌+◌, ◌-◌, ◌*◌, ◌≤◌, ◌<◌}
use mathlib.Core.Path.{◌≡◌, refl, sym, ap}
use mathlib.Core.List.{List, ◌++◌}
use native.Mathlib.Omega.{arith}
use lib.ListN.{length, take, drop}
use lib.Seq.{drop_at, take-length}
use Rattle.lists.specs.Front.{at}
use Rattle.lists.proofs.FrontLaws.{at_front, length_front, drop_front, length_over}
use Rattle.dataflow.specs.Net.{Net}
use Rattle.dataflow.specs.Counts.{sum}
use Rattle.dataflow.specs.Copies.{Copy}
use Rattle.dataflow.specs.Lists.{StartList, RoundList}
use Rattle.dataflow.specs.Promise.{PlanHolds}
use Rattle.dataflow.specs.Sheet.{Below, plan_of}
use Rattle.dataflow.specs.Times.{TimeTable, entry}
use Rattle.dataflow.proofs.CopyLaws.{copy_station}
use Rattle.dataflow.proofs.ListLaws.{list_same}
use Rattle.dataflow.proofs.PlanLaws.{search_bound}
use Rattle.dataflow.proofs.PromiseLaws.{kept}
use Rattle.dataflow.proofs.SumLaws.{sum_before}
use Rattle.dataflow.proofs.TimeLaws.{times_same}
use Rattle.sheet.specs.declared.Sheet.{Sheet}
use Rattle.chain.specs.Chain.{delays_of}
use Rattle.checks.specs.declared.Checked.{Checked}
use Rattle.checks.specs.Check.{columns_of, net_for, delays_for, sheet_in}
use Rattle.search.specs.declared.Found.{Found}
use Rattle.planner.specs.declared.PlanNumbers.{PlanNumbers}
use Rattle.planner.specs.Making.{Begun, HasRoom, Wrote, Roomed, numbers_of}
use Rattle.planner.specs.Plan.{Only, Planned}
use Rattle.planner.proofs.WorkLaws.{W, retimes, backs, firings_are}
use Rattle.planner.proofs.StandLaws.{start_long, round_long, start_taken, round_taken}

-- a list over the first entries of a buffer
pub only_front : (k : ℕ) (l before : List ℕ) → length l ≡ k → k ≤ length before → Only k before (l ++ drop (length l) before)
only_front k l before e h = record { long = length_over l before (omega arith); rest = rw e (drop_at l (drop k before) k e) }

module _ {c : Checked} {r : Found} {back : ℕ} {firings : List ℕ} {starts : ℕ} (b : Begun c r back firings starts) where
  abbrev f : Sheet
  f = sheet_in c

  abbrev G : Net
  G = net_for (sheet_in c) c.round.q

  abbrev D : Below c.round.chain.m → ℕ
  D = delays_of c.round.chain.m r.delay

  module _ {start round times start' round' times' : List ℕ} (w : Wrote c r firings start round times start' round' times') (rooms : HasRoom c starts start round times) where
    start_is : StartList G (delays_for f c.round.q) (at r.retiming) back (take starts start')
    start_is =
        rw (start_taken b w)
        (list_same G (at firings) (λ v. back * at c.round.q v - at r.retiming v) (firings_are b.retimed b.backs b.fires)
        (w.start_list.is f.time c.round.q))

    round_is : RoundList G D (take c.round.total round')
    round_is = rw (round_taken b w) (w.round_list.is f.time c.round.q)

    times_is : TimeTable G D (entry (at c.round.q) times')
    times_is = times_same G (W b.retimed) D (entry (at c.round.q) r.table) (entry (at c.round.q) times') same (retimes b.retimed).table.times
      where
        same : (v i : ℕ) → Copy G v i → entry (at c.round.q) r.table v i ≡ entry (at c.round.q) times' v i
        same v i k =
            let place = sum v (at c.round.q) + (i - 1) in
            let within : sum v (at c.round.q) + (i - 1) < c.round.total = omega (arith, sum_before (at c.round.q) v f.n (copy_station G (W b.retimed) k), sym c.round.counted.adds, k.low, k.high) in
            rw w.time_table (sym (at_front c.round.total (at r.table) times (sum v (at c.round.q) + (i - 1)) within))

    module _ {room : List ℕ} (s : Roomed c (take starts start') (take c.round.total round') room) {p : PlanNumbers} (is : p ≡ numbers_of c r back firings starts room) where
      holds : PlanHolds G (delays_for f c.round.q) f.target
          (plan_of (columns_of f) c.round.q r.period r.rounds back r.retiming r.delay room (take starts start') (take c.round.total round') times')
      holds = record {
        counts = b.retimed.ready.counts.counts;
        retiming = (retimes b.retimed).retiming;
        delays = λ e. (retimes b.retimed).delays e.0 e.1;
        period = (retimes b.retimed).period;
        rounds = (retimes b.retimed).rounds;
        back = backs b.retimed b.backs;
        room = λ e. rw (take-length (take starts start'), take-length (take c.round.total round')) at (s.is e.0 e.1 e.1 f.time c.round.q);
        start = start_is;
        round = round_is;
        times = times_is;
      }

      pub planned : Planned f start round times start' round' times' p
      planned = rw is (record {
        stations = refl;
        queues = refl;
        tags = refl;
        counts = b.retimed.ready.counts;
        total = sym c.round.counted.adds;
        firings = b.fires;
        starts = b.adds;
        promise = kept G (W b.retimed) (delays_for f c.round.q) f.target _ holds;
        start_only = rw w.start_list.stored (only_front starts w.start_list.list start (start_long b w) rooms.start_room);
        round_only = rw w.round_list.stored (only_front c.round.total w.round_list.list round (round_long b w) rooms.round_room);
        times_only = rw w.time_table (record { long = length_front c.round.total (at r.table) times rooms.times_room; rest = drop_front c.round.total (at r.table) times });
        no_station = λ v l. omega (arith, search_bound G (W b.retimed) (delays_for f c.round.q) f.target (retimes b.retimed).rounds.searched v, ap (λ (x : ℕ). r.rounds * x) (b.retimed.ready.counts.beyond v l));
        no_delay = (retimes b.retimed).rest;
        no_room = s.rest;
      })
