-- The laws of a search in the making.
use mathlib.Core.Path.{◌≡◌, ap}
use mathlib.Core.List.{List}
use mathlib.Core.Logic.{⊎_elim}
use Prim.Native.Nat.{ℕ, ◌+◌, ◌*◌, ◌≤◌, ◌<◌, ◌^◌}
use native.Mathlib.Nat.{mul-le-mul}
use native.Mathlib.Numerals.{add-one}
use native.Mathlib.Omega.{arith}
use lib.ListN.{length, take, replicate, length-take}
use lib.IntN.{ℤ}
use Rattle.lists.specs.Front.{at}
use Rattle.lists.proofs.Order.{lt_or_ge}
use Rattle.lists.proofs.StoreLaws.{at_zeros}
use Rattle.dataflow.specs.Net.{Net, Sound}
use Rattle.dataflow.specs.Counts.{sum}
use Rattle.dataflow.specs.Paths.{Late}
use Rattle.dataflow.specs.Runs.{initially, after, Run}
use Rattle.dataflow.specs.Retiming.{Serves}
use Rattle.dataflow.specs.Search.{HowMany, Searched, nothing, raise, SearchEnds}
use Rattle.dataflow.specs.Sheet.{Below}
use Rattle.dataflow.proofs.EndLaws.{ends_at_plan, too_long}
use Rattle.dataflow.proofs.EntryLaws.{entry_station}
use Rattle.dataflow.proofs.LateLaws.{few_of, many_last, lates_of}
use Rattle.dataflow.proofs.ListLaws.{run_length}
use Rattle.dataflow.proofs.PlanLaws.{search_bound}
use Rattle.dataflow.proofs.RaiseLaws.{raise_legal, raised_by}
use Rattle.dataflow.proofs.SumLaws.{sum_above, sum_none, sum_same}
use Rattle.dataflow.proofs.WholeLaws.{Retimed, retimed_is, whole_retimed}
use Rattle.chain.specs.Chain.{DelaysGiven, CountedChain, net_of, delays_of}
use Rattle.firing.specs.Late.{LatestEnd, LateCounts}
use Rattle.firing.specs.Times.{Ordered, Tabled}
use Rattle.firing.proofs.PeriodLaws.{period_is, late_is}
use Rattle.chain.proofs.ChainLaws.{sound, count_few}
use Rattle.search.specs.Cut.{keeps, late_first, Cuttable, Reordered}
use Rattle.search.specs.Raise.{DelaysFit, NewDelays, Raised}
use Rattle.search.specs.Found.{Retimes}
use Rattle.search.proofs.CutLaws.{turned_run, turned_whole}

module _ (n m : ℕ) (source sink produced consumed delay time q : List ℕ) (total target : ℕ) where
  abbrev G : Net
  G = net_of n m source sink produced consumed time q

  abbrev d : Below m → ℕ
  d = delays_of m delay

  -- so many rounds raised something, these are the retiming and the delays that they led to, and this is an order in which the round can be fired
  pub record Underway (retiming current order : List ℕ) (rounds : ℕ) : Type 0 where
    pub searched : Searched G d target rounds (at retiming)
    pub retimed : Retimed G d (at retiming) (delays_of m current)
    pub rest : (e : ℕ) → m ≤ e → at current e ≡ 0
    pub ordered : Ordered n m source sink produced consumed current time q total order

  pub begun : {list : List ℕ} → DelaysGiven m delay → Ordered n m source sink produced consumed delay time q total list → Underway (replicate 32 0) delay list 0
  begun given o = record {
    searched = nothing (at_zeros 32);
    retimed = λ e. rw (at_zeros 32 (at source e.0), at_zeros 32 (at sink e.0)) (omega arith);
    rest = given.rest;
    ordered = o;
  }

  module _ (c : CountedChain n m source sink produced consumed q total) where
    W : Sound G
    W = sound c time

    module _ {retiming current order : List ℕ} {rounds : ℕ} (u : Underway retiming current order rounds) (given : DelaysGiven m delay) (few : rounds ≤ 256) where
      pub retiming_few : (v : ℕ) → at retiming v ≤ 65536
      retiming_few v = omega (arith, search_bound G W d target u.searched v, mul-le-mul few (count_few c v))

      delay_few : (e : ℕ) → at current e ≤ 4198399
      delay_few e =
          ⊎_elim
          (λ h. omega (arith, u.retimed (e, h), given.most e, mul-le-mul (c.chain.takes_most e h) (retiming_few (at sink e))))
          (λ h. omega (arith, u.rest e h))
          (lt_or_ge e m)

      pub delays_small : (e : ℕ) → at current e < 2 ^ 30
      delays_small e = omega (arith, delay_few e)

      abbrev D : Below m → ℕ
      D = delays_of m current

      module _ {table : List ℕ} (t : Tabled n m source sink produced consumed current time q total table) where
        module _ {period : ℕ} (l : LatestEnd n q time table period) where
          -- nothing is late
          pub ended : period ≤ target → Retimes n m source sink produced consumed delay time q total target (record { rounds = rounds; period = period; retiming = retiming; delay = current; table = table })
          ended h =
              let P = period_is n m source sink produced consumed current time q total c u.ordered t l in
              let ends : SearchEnds G d target rounds (at retiming) = record { searched = u.searched; none_late = λ v i x. none_late (rw (retimed_is G d (at retiming) D u.retimed) at x) } in
              record {
                retiming = ends_at_plan G W d target ends;
                rounds = ends;
                delays = λ e k. whole_retimed G d (at retiming) D u.retimed (e, k);
                rest = u.rest;
                period = P;
                table = t;
              }
            where
              none_late : {v i : ℕ} → Late G D target v i → ⊥
              none_late x =
                  omega (arith, x.slow, (period_is n m source sink produced consumed current time q total c u.ordered t l).passed_by_none x.first x.first_copy _ _ x.sum x.path, h)

          -- the copies that are late for any number of ticks: their raise is legal, and leaves an order
          module _ {late : List ℕ} {ticks : ℕ} (k : LateCounts n q time ticks table late) where
            lates : (v : ℕ) → HowMany (Late G D ticks v) (at q v) (at late v)
            lates = late_is n m source sink produced consumed current time q total c u.ordered t ticks k

            late_few : (v : ℕ) → at late v ≤ at q v
            late_few v = few_of (lates v)

            legal : (e : Below m) → at produced e.0 * at late (at source e.0) ≤ D e + at consumed e.0 * at late (at sink e.0)
            legal = raise_legal G W D ticks (at late) (lates_of G W D ticks (at late) lates)

            pub delays_fit : DelaysFit m source sink produced consumed late current
            delays_fit = record {
              few = c.chain.few_queues;
              leaves = λ e h. omega (arith, c.chain.leaves e h, c.chain.few);
              enters = λ e h. omega (arith, c.chain.enters e h, c.chain.few);
              fits = λ e h. record {
                legal = legal (e, h);
                small = omega (arith, delay_few e);
                takes_most = c.chain.takes_most e h;
                makes_most = c.chain.makes_most e h;
                taken_few = omega (arith, late_few (at sink e), count_few c (at sink e));
                made_few = omega (arith, late_few (at source e), count_few c (at source e));
              };
            }

            pub late_small : (v : ℕ) → at late v ≤ 65536
            late_small v = omega (arith, late_few v, count_few c v)

            -- the delays after the raise are those that the copies that aren't late leave, so the late copies can be fired first
            module _ (E : Below m → ℕ) (x : (e : Below m) → E e + at produced e.0 * at late (at source e.0) ≡ D e + at consumed e.0 * at late (at sink e.0)) where
              cut : (e : Below m) → E e + keeps q late (at sink e.0) * at consumed e.0 ≡ D e + keeps q late (at source e.0) * at produced e.0
              cut e =
                  let a : keeps q late (at sink e.0) + at late (at sink e.0) ≡ at q (at sink e.0) = omega (arith, late_few (at sink e.0)) in
                  let b : keeps q late (at source e.0) + at late (at source e.0) ≡ at q (at source e.0) = omega (arith, late_few (at source e.0)) in
                  omega (arith, x e, c.balanced e.0 e.1, ap (λ (y : ℕ). y * at consumed e.0) a, ap (λ (y : ℕ). y * at produced e.0) b)

              late_run : Run G (initially G E) (late_first q late (take total order))
              unfolding late_first
              late_run = turned_run G W (keeps q late) (λ v. omega arith) D E cut (take total order) u.ordered.run u.ordered.whole

              late_whole : (v : ℕ) → v < n → (after G (initially G E) (late_first q late (take total order))).fired v ≡ at q v
              unfolding late_first
              late_whole = turned_whole G W (keeps q late) (λ v. omega arith) D E cut (take total order) u.ordered.run u.ordered.whole

              late_length : length (late_first q late (take total order)) ≡ total
              late_length =
                  omega (arith, run_length G late_run, sum_none n, sum_same n (after G (initially G E) (late_first q late (take total order))).fired (at q) late_whole, c.adds)

            pub cuttable : Cuttable n total q late order
            cuttable = record {
              few = c.chain.few;
              most = c.few;
              long = u.ordered.long;
              stations = entry_station G (initially G D) total order u.ordered.long u.ordered.run;
              lates = late_few;
              beyond = c.beyond;
              whole = late_length (raised_by G (at late) D) (λ e. omega (arith, legal e));
            }

          -- one round more, with those that are late for the target
          module _ {late : List ℕ} (k : LateCounts n q time target table late) where
            pub raised_once : target < period → {retiming' current' order' : List ℕ} → Raised n late retiming retiming' → NewDelays m source sink produced consumed late current current'
                → Reordered q late total order order' → Underway retiming' current' order' (rounds + 1)
            raised_once h {retiming'} {current'} {order'} r x o = record {
              searched = rw add-one (raise (at late) u.searched (rw (retimed_is G d (at retiming) D u.retimed) (lates k)) some rise);
              retimed = λ e.
                  omega (arith, x.is e.0 e.1, u.retimed e, ap (λ (y : ℕ). at produced e.0 * y) (rise (at source e.0)), ap (λ (y : ℕ). at consumed e.0 * y) (rise (at sink e.0)));
              rest = x.rest;
              ordered = record {
                long = omega (arith, length-take total order', ap length o.is, late_length k (delays_of m current') shifted);
                run = rw o.is (late_run k (delays_of m current') shifted);
                whole = rw o.is (late_whole k (delays_of m current') shifted);
              };
            }
              where
                shifted : (e : Below m) → at current' e.0 + at produced e.0 * at late (at source e.0) ≡ D e + at consumed e.0 * at late (at sink e.0)
                shifted e = x.is e.0 e.1

                rise : (v : ℕ) → at retiming' v ≡ at retiming v + at late v
                rise v =
                    ⊎_elim
                    (λ a. r.is v a)
                    (λ a. omega (arith, r.rest v a, k.rest v a, search_bound G W d target u.searched v, ap (λ (y : ℕ). rounds * y) (c.beyond v a)))
                    (lt_or_ge v n)

                some : (v : ℕ) × (1 ≤ at late v)
                some =
                    let y = l.reached in
                    (y.0, many_last (k.is y.0 y.1) (c.positive y.0 y.1) (omega (arith, y.2)))

    -- N rounds or more raised something
    pub gave_up : {retiming current order list : List ℕ} {rounds : ℕ} → Ordered n m source sink produced consumed delay time q total list → Underway retiming current order rounds → total ≤ rounds
        → (z : ℕ → ℤ) → Serves G d target z → ⊥
    gave_up {list = list} o u h = too_long G W d target (record { order = take total list; run = o.run; all_fired = o.whole }) u.searched some (omega (arith, c.adds))
      where
        some : 1 ≤ sum n (at q)
        some = omega (arith, sum_above n (at q) 0 c.chain.some, c.positive 0 c.chain.some)
