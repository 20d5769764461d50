-- Both lists stand in the buffers: each can be fired, and the start list leaves the new delays.
use Prim.Native.Nat.{ℕ, ◌*◌}
use mathlib.Core.Path.{◌≡◌, sym, ap, ◌∙◌}
use mathlib.Core.List.{List}
use native.Mathlib.Omega.{arith}
use lib.ListN.{length, take, drop}
use lib.Seq.{take_at, take-length}
use Rattle.lists.specs.Front.{at}
use Rattle.dataflow.specs.Net.{Net}
use Rattle.dataflow.specs.Runs.{initially, after}
use Rattle.dataflow.specs.Sheet.{Below}
use Rattle.dataflow.specs.Peak.{fill}
use Rattle.dataflow.proofs.ListLaws.{list_run, list_fired, list_length}
use Rattle.dataflow.proofs.RepeatLaws.{start_leaves}
use Rattle.dataflow.proofs.RoomLaws.{fill_counts}
use Rattle.dataflow.proofs.SumLaws.{sum_none}
use Rattle.sheet.specs.declared.Sheet.{Sheet}
use Rattle.chain.specs.Chain.{net_of, delays_of}
use Rattle.checks.specs.declared.Checked.{Checked}
use Rattle.checks.specs.Check.{net_for, delays_for, sheet_in}
use Rattle.search.specs.declared.Found.{Found}
use Rattle.search.proofs.FoundLaws.{new_delays_lem}
use Rattle.planner.specs.Making.{Begun, Wrote, Stand}
use Rattle.planner.proofs.WorkLaws.{W, retimes, backs, firings_are, round_fireable, start_fireable}

module _ {c : Checked} {r : Found} {back : ℕ} {firings : List ℕ} {starts : ℕ} (b : Begun c r back firings starts)
    {start round times start' round' times' : List ℕ} (w : Wrote c r firings start round times start' round' times') where
  abbrev f : Sheet
  f = sheet_in c

  abbrev G : (time q : List ℕ) → Net
  G time q = net_of f.n f.m f.source f.sink f.produced f.consumed time q

  pub start_long : length w.start_list.list ≡ starts
  start_long = omega (arith, list_length (G f.time c.round.q) (at firings) (w.start_list.is f.time c.round.q), sum_none f.n, b.adds)

  pub round_long : length w.round_list.list ≡ c.round.total
  round_long = omega (arith, list_length (G f.time c.round.q) (at c.round.q) (w.round_list.is f.time c.round.q), sum_none f.n, sym c.round.counted.adds)

  pub start_taken : take starts start' ≡ w.start_list.list
  start_taken = rw w.start_list.stored (take_at w.start_list.list (drop (length w.start_list.list) start) starts start_long)

  pub round_taken : take c.round.total round' ≡ w.round_list.list
  round_taken = rw w.round_list.stored (take_at w.round_list.list (drop (length w.round_list.list) round) c.round.total round_long)

  -- by the numbers of firings, whatever the times and counts are
  leaves : (time q : List ℕ) (e : Below f.m) → fill (G time q) (after (G time q) (initially (G time q) (delays_of f.m c.delay)) (take starts start')) e ≡ at r.delay e.0
  leaves time q e =
      let d = delays_of f.m c.delay in
      let l = w.start_list.is time q in
      let u = at f.source e.0 in
      let v = at f.sink e.0 in
      let from = c.round.chain.fits.leaves e.0 e.1 in
      let to = c.round.chain.fits.enters e.0 e.1 in
      let are = firings_are b.retimed b.backs b.fires in
      rw start_taken
      (omega (
        arith,
        fill_counts (G time q) d (list_run (G time q) (at firings) l) e,
        ap (λ (x : ℕ). x * at f.produced e.0) (list_fired (G time q) (at firings) l u from ∙ are u from),
        ap (λ (x : ℕ). x * at f.consumed e.0) (list_fired (G time q) (at firings) l v to ∙ are v to),
        start_leaves (net_for f c.round.q) (W b.retimed) (delays_for f c.round.q) (delays_of f.m r.delay) (at r.retiming) back
            (new_delays_lem c.round.counted (retimes b.retimed)) (backs b.retimed b.backs).covers e,
      ))

  -- the lists as they are handed to the rooms
  pub stand : Stand c r (take starts start') (take c.round.total round')
  stand = record {
    rest = b.retimed.ready.given.rest;
    start_list = record {
      long = omega arith;
      few = omega (arith, ap length start_taken, start_long, (start_fireable b).wants.few);
      delays = (start_fireable b).delays;
      run = λ time q. rw (take-length (take starts start'), start_taken) (list_run (G time q) (at firings) (w.start_list.is time q));
    };
    leaves = λ time q e. rw (take-length (take starts start')) (leaves time q e);
    round_list = record {
      long = omega arith;
      few = omega (arith, ap length round_taken, round_long, (round_fireable b.retimed).wants.few);
      delays = (round_fireable b.retimed).delays;
      run = λ time q. rw (take-length (take c.round.total round'), round_taken) (list_run (G time q) (at c.round.q) (w.round_list.is time q));
    };
  }
