-- From a round list: period, late copies and time table as computed numbers.
use mathlib.Core.Path.{◌≡◌}
use mathlib.Core.List.{List}
use mathlib.Core.Logic.{◌⊎◌, inl, inr}
use Prim.Native.Nat.{ℕ, zero, suc, ◌+◌, ◌≤◌, ◌<◌}
use native.Mathlib.Omega.{arith}
use native.Mathlib.Decide.{dec_lt}
use lib.ListN.{length, get_or-eq_default}
use Rattle.lists.specs.Front.{at}
use Rattle.dataflow.specs.Net.{Net, Sound}
use Rattle.dataflow.specs.Copies.{Copy, Dependence}
use Rattle.dataflow.specs.Paths.{Period, Late}
use Rattle.dataflow.specs.Search.{HowMany, none}
use Rattle.dataflow.specs.Lists.{RoundList}
use Rattle.dataflow.specs.Times.{finish, Latest, StartOf, TimeTable}
use Rattle.dataflow.proofs.Below.{Upto, upto}
use Rattle.dataflow.proofs.CopyLaws.{inside, copy_station}
use Rattle.dataflow.proofs.LateLaws.{many_dec}
use Rattle.dataflow.proofs.RankLaws.{round_ranked}
use Rattle.dataflow.proofs.StuckLaws.{round_of_list}
use Rattle.dataflow.proofs.MaxLaws.{max_to}
use Rattle.dataflow.proofs.SumTable.{Sums, latest, sums}
use Rattle.dataflow.proofs.TimeLaws.{start_by, times_exist, period_exists, late_dec}

module _ (G : Net) (W : Sound G) (D : G.Queue → ℕ) (l : List ℕ) (round : RoundList G D l) where
  -- the largest sum of a path that ends in copy i of v
  abbrev pub sum_at : (v i : ℕ) → ℕ
  sum_at = latest G D (length l)

  pub sums_here : Sums G D sum_at
  sums_here = sums G W D (length l) (round_ranked G W D (round_of_list G W D l round))

  pub computed_period : 1 ≤ G.stations → Period G D (max_to G.stations (λ v. sum_at v (G.q v)))
  computed_period = period_exists G W D sum_at sums_here

  -- how many copies of v sum to more than T
  unfoldable pub late_count : (T v : ℕ) → ℕ
  unfolding many_dec late_dec
  late_count T v = (many_dec (Late G D T v) (late_dec G W D sum_at sums_here T v) (G.q v)).0

  pub computed_late : (T v : ℕ) → HowMany (Late G D T v) (G.q v) (late_count T v)
  unfolding late_count
  computed_late T v = (many_dec (Late G D T v) (late_dec G W D sum_at sums_here T v) (G.q v)).1

  pub computed_lates : (T : ℕ) (late : List ℕ) → length late ≡ G.stations → Upto (λ v. late_count T v ≡ at late v) G.stations → (v : ℕ) → HowMany (Late G D T v) (G.q v) (at late v)
  computed_lates T late one_each same v = go (dec_lt v G.stations)
    where
      go : Dec (v < G.stations) → HowMany (Late G D T v) (G.q v) (at late v)
      go (yes h) = rw (upto (λ w. late_count T w ≡ at late w) G.stations same v h) at (computed_late T v)
      go (no h) = rw (W.beyond v (omega arith), get_or-eq_default late 0 {n = v} (omega (arith, one_each))) none

  -- a table that has these starts is the time table
  pub computed_times : (start : ℕ → ℕ → ℕ) → ((v : ℕ) → v < G.stations → (i : ℕ) → i < G.q v → sum_at v (suc i) ≡ start v (suc i) + G.time v) → TimeTable G D start
  computed_times start same v i c = record { after = after; is = is t.is }
    where
      as_start : (v i : ℕ) → Copy G v i → start_by G sum_at v i ≡ start v i
      as_start v zero c = absurd (omega (arith, c.low))
      as_start v (suc i) c = omega (arith, same v (copy_station G W c) i c.high)

      t : StartOf G D (start_by G sum_at) v i
      t = times_exist G W D sum_at sums_here v i c

      after : (e : G.Queue) (h : ℕ) → G.sink e ≡ v → Dependence G D e h i 0 → finish G start (G.source e) h + G.cost e ≤ start v i
      after e h to x = omega (arith, t.after e h to x, as_start v i c, as_start (G.source e) h (inside G W e x).from)

      is : (start_by G sum_at v i ≡ 0) ⊎ Latest G D (start_by G sum_at) v i → (start v i ≡ 0) ⊎ Latest G D start v i
      is (inl z) = inl (omega (arith, as_start v i c))
      is (inr x) = inr (record {
        queue = x.queue;
        copy = x.copy;
        to = x.to;
        needed = x.needed;
        is = omega (arith, x.is, as_start v i c, as_start (G.source x.queue) x.copy (inside G W x.queue x.needed).from);
      })
