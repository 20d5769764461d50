-- What the routines find, by the definitions: the round list fires a round, and the time table tells the period and the late copies.
use Prim.Native.Nat.{ℕ, ◌+◌, ◌≤◌, ◌<◌}
use mathlib.Core.Path.{◌≡◌, ap}
use mathlib.Core.Bool.{Bool, true, false}
use mathlib.Core.List.{List}
use mathlib.Core.Logic.{⊎_elim}
use native.Mathlib.Nat.{le_refl}
use native.Mathlib.Omega.{arith}
use lib.ListN.{length, take, drop, length-append}
use lib.Seq.{take_at}
use Rattle.lists.specs.Front.{at}
use Rattle.lists.proofs.Order.{lt_or_ge}
use Rattle.dataflow.specs.Net.{Net, Sound}
use Rattle.dataflow.specs.Copies.{Copy}
use Rattle.dataflow.specs.Paths.{Within, Period, Late}
use Rattle.dataflow.specs.Search.{HowMany, none}
use Rattle.dataflow.specs.Sheet.{Below}
use Rattle.dataflow.specs.Stuck.{Stuck}
use Rattle.dataflow.specs.Times.{entry}
use Rattle.dataflow.proofs.CopyLaws.{copy_station}
use Rattle.dataflow.proofs.LateLaws.{many_same}
use Rattle.dataflow.proofs.ListLaws.{list_run, list_fired}
use Rattle.dataflow.proofs.PathLaws.{path_end}
use Rattle.dataflow.proofs.PrefixLaws.{prefix_stalled}
use Rattle.dataflow.proofs.RankLaws.{Ranked, round_ranked}
use Rattle.dataflow.proofs.StallLaws.{stuck_of}
use Rattle.dataflow.proofs.SumTable.{Sums}
use Rattle.dataflow.proofs.TimeLaws.{sums_rise, table_sums}
use Rattle.chain.specs.Chain.{CountedChain, net_of, delays_of}
use Rattle.firing.specs.Fire.{Wanted, Fires}
use Rattle.firing.specs.Times.{Ordered, Tabled}
use Rattle.firing.specs.Late.{LatestEnd, LateCounts}
use Rattle.chain.proofs.ChainLaws.{sound}
use Rattle.firing.proofs.FireLaws.{written}

module _ {n m : ℕ} {source sink produced consumed q : List ℕ} {total : ℕ} (c : CountedChain n m source sink produced consumed q total) where
  -- the counts, as what is wanted of a round
  pub round_wanted : Wanted n q total
  round_wanted = record { adds = c.adds; beyond = c.beyond; few = omega (arith, c.few) }

  module _ {delay : List ℕ} {r : Bool} {before after : List ℕ} (f : Fires n m source sink produced consumed delay q total r before after) where
    -- the list of a round is an order for the time table
    pub round_ordered : (time : List ℕ) → r ≡ true → total ≤ length before → Ordered n m source sink produced consumed delay time q total after
    round_ordered time t h =
        let w = written f round_wanted t h in
        let l : take total after ≡ f.made = rw w.1 (take_at f.made (drop total before) total w.0) in
        let G = net_of n m source sink produced consumed time q in
        record {
          long = omega (arith, ap length w.1, length-append f.made (drop total before), w.0);
          run = rw l (list_run G (at q) (f.complete t time q));
          whole = rw l (list_fired G (at q) (f.complete t time q));
        }

    -- a round that can't be completed is stuck
    pub round_stuck : (time : List ℕ) → r ≡ false → Stuck (net_of n m source sink produced consumed time q) (delays_of m delay)
    round_stuck time e =
        let G = net_of n m source sink produced consumed time q in
        let s = prefix_stalled G (delays_of m delay) (at q) (sound c time) (f.so_far time q) (omega (arith, f.fewer e, c.adds)) (f.none_can e time q) in
        stuck_of G (sound c time) (delays_of m delay) s.fired s.short (record { v = s.v; i = at q s.v; undone = s.left; high = le_refl _ })

module _ (n m : ℕ) (source sink produced consumed delay time q : List ℕ) (total : ℕ) where
  abbrev G : Net
  G = net_of n m source sink produced consumed time q

  abbrev D : Below m → ℕ
  D = delays_of m delay

  module _ (c : CountedChain n m source sink produced consumed q total) where
    W : Sound G
    W = sound c time

    module _ {list table : List ℕ} (o : Ordered n m source sink produced consumed delay time q total list) (t : Tabled n m source sink produced consumed delay time q total table) where
      abbrev end : ℕ → ℕ → ℕ
      end v i = entry (at q) table v i + at time v

      pub ranked : Ranked G D (at q) (length (take total list))
      ranked = round_ranked G W D (record { order = take total list; run = o.run; all_fired = o.whole })

      sums : Sums G D end
      sums = table_sums G W D _ ranked (entry (at q) table) t.times

      -- the latest finish is the period
      pub period_is : {r : ℕ} → LatestEnd n q time table r → Period G D r
      period_is {r} l = go l.reached
        where
          within : Within G D r
          within u h v i S p =
              let k = path_end G W p in
              omega (arith, sums.above u h v i S p, sums_rise G W D end sums v i (at q v) k k.high (omega arith), l.above v (copy_station G W k))

          go : (v : ℕ) × (v < n) × (r ≡ end v (at q v)) → Period G D r
          go x =
              let k = c.positive x.0 x.1 in
              let p = sums.reached x.0 (at q x.0) (omega arith) in
              record { first = p.0; first_copy = p.1; last = x.0; last_copy = at q x.0; reached = rw x.2 p.2; passed_by_none = within }

      -- a copy is late exactly where it finishes after the target
      after_late : (T v i : ℕ) → Copy G v i → T < end v i → Late G D T v i
      after_late T v i k h = let p = sums.reached v i k in record { first = p.0; first_copy = p.1; sum = end v i; path = p.2; slow = h }

      late_after : (T v i : ℕ) → Late G D T v i → T < end v i
      late_after T v i l = omega (arith, sums.above l.first l.first_copy v i l.sum l.path, l.slow)

      pub late_is : (T : ℕ) {late : List ℕ} → LateCounts n q time T table late → (v : ℕ) → HowMany (Late G D T v) (at q v) (at late v)
      late_is T l v =
          ⊎_elim
          (λ h. many_same (λ i a b. after_late T v i (record { low = a; high = b })) (λ i a b. late_after T v i) (l.is v h))
          (λ h. rw (c.beyond v h, l.rest v h) none)
          (lt_or_ge v n)
