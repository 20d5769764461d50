-- First-token paths go as far as all zero-delay paths (source document 004, Theorem 7), and those from open stations reach every station (Theorem 8). So they have the period.
use mathlib.Core.Path.{◌≡◌, ap}
use mathlib.Core.Logic.{◌⊎◌, inl, inr}
use Prim.Native.Nat.{ℕ, zero, suc, ◌+◌, ◌*◌, ◌/◌, ◌≤◌, ◌<◌}
use native.Mathlib.Omega.{arith}
use Rattle.dataflow.specs.Net.{Net, Sound}
use Rattle.dataflow.specs.Copies.{Copy}
use Rattle.dataflow.specs.Paths.{Path, alone, step, Period}
use Rattle.dataflow.specs.Runs.{initial, initially, Ready}
use Rattle.dataflow.specs.FirstToken.{Open, FirstPath, begins, enters, FirstPeriod}
use Rattle.dataflow.proofs.ListFrom.{length_from}
use Rattle.dataflow.proofs.FeedLaws.{Feed}
use Rattle.dataflow.proofs.TakerLaws.{taker_of, of_taker, taker_is, taker_feed, taker_low}
use Rattle.dataflow.proofs.CopyLaws.{Inside, inside, inside_of, copy_station}
use Rattle.dataflow.proofs.PathLaws.{path_start}
use Rattle.dataflow.proofs.Decide.{Lacking, ready_or_lacking}
use Rattle.dataflow.proofs.RankLaws.{Ranked}

module _ (G : Net) (W : Sound G) (D : G.Queue → ℕ) where
  pub first_end : {u i v j S : ℕ} → FirstPath G D u i v j S → Copy G v j
  first_end (begins c) = c
  first_end (enters {h = h} {j = j} e p t hi) = record { low = (taker_of (D e) (G.produced e) (G.consumed e) h j (first_end p).low t).first; high = hi }

  -- Each first-token path is a zero-delay path.
  pub first_path : {u i v j S : ℕ} → FirstPath G D u i v j S → Path G D u i v j S
  first_path (begins c) = alone c
  first_path (enters {h = h} {j = j} e p t hi) =
      let c = first_end p in
      let k = taker_of (D e) (G.produced e) (G.consumed e) h j c.low t in
      step e (first_path p) (inside_of G W e c.low (record { low = k.first; high = hi }) (taker_feed (D e) (G.produced e) (G.consumed e) h j (W.makes e) k))

  -- one step more, entered by the first token, where copy h or a later one feeds copy j
  enter : (e : G.Queue) {u i : ℕ} (h h' j S : ℕ) → FirstPath G D u i (G.source e) h' S → h' ≤ h → Inside G D e h j
      → (j' : ℕ) × (j' ≤ j) × FirstPath G D u i (G.sink e) j' (S + G.cost e + G.time (G.sink e))
  enter e h zero j S p le m = absurd (omega (arith, (first_end p).low))
  enter e h (suc f) j S p le m =
      let t = taker_is (D e) (G.produced e) (G.consumed e) f (W.takes e) in
      let l = taker_low (D e) (G.produced e) (G.consumed e) (suc f) h _ j t m.feed le in
      (suc ((D e + f * G.produced e) / G.consumed e), l, enters e p (of_taker (D e) (G.produced e) (G.consumed e) (suc f) _ (omega arith) t) (omega (arith, l, m.to.high)))

  -- Theorem 7: what a zero-delay path reaches from a copy, a first-token path reaches from that copy, or from any earlier one of its station, no later and with the same sum.
  pub first_follows : {u h v i S : ℕ} (h' : ℕ) → 1 ≤ h' → h' ≤ h → Path G D u h v i S → (j : ℕ) × (j ≤ i) × FirstPath G D u h' v j S
  first_follows h' lo le (alone {v = v} c) = (h', le, begins {v = v} {i = h'} (omega (arith, c.high)))
  first_follows h' lo le (step {h = h} {j = j} {S = S} e p x) =
      let r = first_follows h' lo le p in
      enter e h r.0 j S r.2 r.1 (inside G W e x)

  -- a sum has the time of the last station in it
  last_in_sum : {u i v j S : ℕ} → FirstPath G D u i v j S → G.time v ≤ S
  last_in_sum (begins c) = omega arith
  last_in_sum (enters e p t hi) = omega arith

  -- one path behind another, with a sum that is no smaller than the second's
  join : {w k u i v j A S : ℕ} → FirstPath G D w k u i A → FirstPath G D u i v j S → (B : ℕ) × (S ≤ B) × FirstPath G D w k v j B
  join {A = A} p (begins c) = (A, last_in_sum p, p)
  join p (enters {S = S} e r t hi) = let x = join p r in (x.0 + G.cost e + G.time (G.sink e), omega (arith, x.1), enters e x.2 t hi)

  -- Some queue into v holds less than one firing's worth.
  record Shut (v : ℕ) : Type 0 where
    queue : G.Queue
    to : G.sink queue ≡ v
    less : D queue < G.consumed queue

  open_or_shut : (v : ℕ) → Open G D v ⊎ Shut v
  open_or_shut v = go (ready_or_lacking G W (initially G D) v)
    where
      go : Ready G (initially G D) v ⊎ Lacking G (initially G D) v → Open G D v ⊎ Shut v
      go (inl r) = inl (λ e to. omega (arith, r e to, length_from initial 0 (D e)))
      go (inr l) = inr (record { queue = l.queue; to = l.to; less = omega (arith, l.lacks, length_from initial 0 (D l.queue)) })

  -- a first-token path from the first copy of an open station to the first copy of v
  pub record Reached (v : ℕ) : Type 0 where
    pub from : ℕ
    pub opens : Open G D from
    pub sum : ℕ
    pub path : FirstPath G D from 1 v 1 sum

  -- In a chain that isn't stuck, which is what a rank of its copies says:
  module _ (R : ℕ) (r : Ranked G D G.q R) where
    by_shut : (e : G.Queue) → D e < G.consumed e → 1 ≤ G.q (G.sink e) → Reached (G.source e) → Reached (G.sink e)
    by_shut e less c x = record {
      from = x.from;
      opens = x.opens;
      sum = x.sum + G.cost e + G.time (G.sink e);
      path = enters e x.path (of_taker (D e) (G.produced e) (G.consumed e) 1 1 (omega arith) (omega arith)) c;
    }

    reached_within : (k v : ℕ) → 1 ≤ G.q v → r.rank v 1 < k → Reached v
    reached_within zero v c h = absurd (omega arith)
    reached_within (suc k) v c h = go (open_or_shut v) (λ u a b. reached_within k u a b)
      where
        go : Open G D v ⊎ Shut v → ((u : ℕ) → 1 ≤ G.q u → r.rank u 1 < k → Reached u) → Reached v
        go (inl o) ih = record { from = v; opens = o; sum = G.time v; path = begins {v = v} {i = 1} (omega arith) }
        go (inr z) ih = more z.queue z.to z.less
          where
            more : (e : G.Queue) → G.sink e ≡ v → D e < G.consumed e → Reached v
            more e to less =
                let f : Feed (D e) (G.produced e) (G.consumed e) 1 1 = omega (arith, W.makes e) in
                let u = r.up e 1 1 (omega arith) (omega (arith, c, ap G.q to)) f in
                let x = ih (G.source e) u.0 (omega (arith, u.1, h, ap (λ (w : ℕ). r.rank w 1) to)) in
                rw to at (by_shut e less (omega (arith, c, ap G.q to)) x)

    -- Theorem 8-2: the first copy of each station is reached from the first copy of an open station.
    pub open_reaches : (v : ℕ) → v < G.stations → Reached v
    open_reaches v h = let c = W.counts.positive v h in reached_within R v c (r.top v 1 (omega arith) c)

    -- Theorem 8-1: some station is open.
    pub open_exists : 1 ≤ G.stations → (u : ℕ) × Open G D u
    open_exists some = let x = open_reaches 0 some in (x.from, x.opens)

    -- what a zero-delay path reaches, a first-token path from the first copy of an open station reaches with a sum that is no smaller
    from_open : {u h v i S : ℕ} → Path G D u h v i S → (w : ℕ) × (j : ℕ) × (B : ℕ) × (S ≤ B) × Open G D w × FirstPath G D w 1 v j B
    from_open {u} p =
        let c = path_start G W p in
        let f = first_follows 1 (omega arith) c.low p in
        let x = open_reaches u (copy_station G W c) in
        let y = join x.path f.2 in
        (x.from, f.0, y.0, y.1, x.opens, y.2)

    -- So the period is the largest sum of a first-token path from the first copy of an open station, and the other way round.
    pub first_period : (P : ℕ) → Period G D P → FirstPeriod G D P
    first_period P h =
        let x = from_open h.reached in
        let same : x.2 ≡ P = omega (arith, x.3, h.passed_by_none x.0 1 h.last x.1 x.2 (first_path x.5)) in
        record {
          first = x.0;
          opens = x.4;
          last = h.last;
          last_copy = x.1;
          reached = rw same at x.5;
          passed_by_none = λ u v j S o p. h.passed_by_none u 1 v j S (first_path p);
        }

    pub period_first : (P : ℕ) → FirstPeriod G D P → Period G D P
    period_first P h = record {
      first = h.first;
      first_copy = 1;
      last = h.last;
      last_copy = h.last_copy;
      reached = first_path h.reached;
      passed_by_none = λ u i v j S p. let x = from_open p in omega (arith, x.3, h.passed_by_none x.0 v x.1 x.2 x.4 x.5);
    }
