-- A plan exists wherever any whole numbers serve a sheet that isn't stuck, and there is no second.
use mathlib.Core.Path.{◌≡◌, sym, ap, ap₂, fun_ext}
use mathlib.Core.List.{◌++◌}
use Prim.Native.Nat.{ℕ, zero, suc, ◌+◌, ◌-◌, ◌*◌, ◌≤◌, ◌<◌}
use native.Mathlib.Nat.{mul-le-mul_left, mul-le-mul_right}
use native.Mathlib.Omega.{arith}
use native.Mathlib.Decide.{ℕ_discrete, dec_le}
use lib.ListN.{length}
use lib.IntN.{ℤ}
use Rattle.dataflow.specs.Net.{Net, Sound}
use Rattle.dataflow.specs.Counts.{Counts, sum, total}
use Rattle.dataflow.specs.Copies.{Copy}
use Rattle.dataflow.specs.Stuck.{Stuck, RoundFires}
use Rattle.dataflow.specs.Retiming.{whole, retimed, Serves}
use Rattle.dataflow.specs.Search.{Searched, nothing, raise, SearchEnds}
use Rattle.dataflow.specs.Lists.{Covers, Back}
use Rattle.dataflow.specs.Promise.{Plan, PlanHolds, Promise}
use Rattle.dataflow.proofs.Below.{upto, upto_of}
use Rattle.dataflow.proofs.Decide.{equal, upto_dec}
use Rattle.dataflow.proofs.SumLaws.{sum_above}
use Rattle.dataflow.proofs.LateLaws.{few_of}
use Rattle.dataflow.proofs.PathLaws.{period_once}
use Rattle.dataflow.proofs.WholeLaws.{new_delay_lem}
use Rattle.dataflow.proofs.StuckLaws.{legal_ranked, stuck_cannot_fire, round_of_list}
use Rattle.dataflow.proofs.RankLaws.{round_ranked}
use Rattle.dataflow.proofs.ListLaws.{list_once, list_same, start_length_lem}
use Rattle.dataflow.proofs.SumTable.{latest, sums}
use Rattle.dataflow.proofs.TimeLaws.{start_by, times_exist, times_once, longest, period_exists}
use Rattle.dataflow.proofs.SearchLaws.{rounds_bound}
use Rattle.dataflow.proofs.EndLaws.{ends_at_plan, plan_exists, rounds_once}
use Rattle.dataflow.proofs.NotStuckLaws.{round_list_completes, start_list_completes}
use Rattle.dataflow.proofs.PeakLaws.{peak_from, peak_once}
use Rattle.dataflow.proofs.RoomLaws.{computed_room}
use Rattle.dataflow.proofs.PromiseLaws.{plan_retimed, kept}

-- the least number with a property that can be decided, where it holds from m on; k numbers are still to be tried
least_from : (P : ℕ → Type 0) → ((c : ℕ) → Dec (P c)) → (k c : ℕ) → P (k + c) → ((b : ℕ) → P b → c ≤ b) → (c : ℕ) × P c × ((b : ℕ) → P b → c ≤ b)
least_from P w zero c p low = let e : 0 + c ≡ c = omega arith in (c, rw e at p, low)
least_from P w (suc k) c p low = go (w c) (λ h. least_from P w k (suc c) (let e : suc k + c ≡ k + suc c = omega arith in rw e at p) h)
  where
    go : Dec (P c) → (((b : ℕ) → P b → suc c ≤ b) → (c : ℕ) × P c × ((b : ℕ) → P b → c ≤ b)) → (c : ℕ) × P c × ((b : ℕ) → P b → c ≤ b)
    go (yes y) ih = (c, y, low)
    go (no n) ih = ih (λ b pb. elim (ℕ_discrete c b) [ yes e ↦ absurd (n (rw e pb)) | no x ↦ omega (arith, low b pb) ])

-- Two plans agree in every number and list; beyond the stations and copies there is nothing to agree in.
pub record SamePlan (G : Net) (P P' : Plan G) : Type 0 where
  pub retiming : (v : ℕ) → v < G.stations → P.retiming v ≡ P'.retiming v
  pub delay : (e : G.Queue) → P.delay e ≡ P'.delay e
  pub room : (e : G.Queue) → P.room e ≡ P'.room e
  pub period : P.period ≡ P'.period
  pub rounds : P.rounds ≡ P'.rounds
  pub back : P.back ≡ P'.back
  pub start : P.start ≡ P'.start
  pub round : P.round ≡ P'.round
  pub times : (v i : ℕ) → Copy G v i → P.times v i ≡ P'.times v i

module _ (G : Net) (W : Sound G) where
  pub back_exists : (r : ℕ → ℕ) → (c : ℕ) × Back G r c
  back_exists r = go (least_from (Covers G r) covers_dec (sum G.stations r) 0 all (λ b h. omega arith))
    where
      covers_dec : (c : ℕ) → Dec (Covers G r c)
      covers_dec c = equal (upto (λ v. r v ≤ c * G.q v) G.stations) (upto_of (λ v. r v ≤ c * G.q v) G.stations) (upto_dec (λ v. r v ≤ c * G.q v) (λ v. dec_le (r v) (c * G.q v)) G.stations)

      all : Covers G r (sum G.stations r + 0)
      all v h = omega (arith, sum_above G.stations r v h, mul-le-mul_left (sum G.stations r) (W.counts.positive v h))

      go : (c : ℕ) × Covers G r c × ((b : ℕ) → Covers G r b → c ≤ b) → (c : ℕ) × Back G r c
      go x = (x.0, record { covers = x.1; least = x.2 })

  pub back_once : (r r' : ℕ → ℕ) (c c' : ℕ) → ((v : ℕ) → v < G.stations → r v ≡ r' v) → Back G r c → Back G r' c' → c ≡ c'
  back_once r r' c c' same b b' =
      omega (arith, b.least c' (λ v h. omega (arith, b'.covers v h, same v h)), b'.least c (λ v h. omega (arith, b.covers v h, same v h)))

  -- a round raises r(v) by at most q(v), so back is at most the number of rounds
  pub search_bound : (d : G.Queue → ℕ) (T : ℕ) {k : ℕ} {r : ℕ → ℕ} → Searched G d T k r → (v : ℕ) → r v ≤ k * G.q v
  search_bound d T (nothing z) v = omega (arith, z v)
  search_bound d T (raise late z h w eq) v = omega (arith, search_bound d T z v, few_of (h v), eq v)

  pub back_bound : (d : G.Queue → ℕ) (T : ℕ) {k : ℕ} {r : ℕ → ℕ} → Searched G d T k r → (c : ℕ) → Back G r c → c ≤ k
  back_bound d T {k} s c b = b.least k (λ v h. search_bound d T s v)

  module _ (d : G.Queue → ℕ) (T : ℕ) where
    plan_of_lem : Counts G G.q → RoundFires G d → 1 ≤ G.stations → (k : ℕ) (r : ℕ → ℕ) → SearchEnds G d T k r → (P : Plan G) × PlanHolds G d T P
    plan_of_lem counts fires some k r ends =
        let plan = ends_at_plan G W d T ends in
        let legal = plan.serves.legal in
        let D = retimed G d (whole r) in
        let rank = legal_ranked G W d fires (whole r) legal in
        let F = latest G D rank.0 in
        let S = sums G W D rank.0 rank.1 in
        let c = back_exists r in
        let free : ¬ Stuck G d = λ s. stuck_cannot_fire G W d s fires in
        let start = start_list_completes G W d free r legal c.0 c.1.covers in
        let round = round_list_completes G W d free (whole r) legal in (
          record {
            period = longest G F;
            rounds = k;
            back = c.0;
            retiming = r;
            delay = D;
            room = λ e. peak_from G (d e) (start.0 ++ round.0) e;
            start = start.0;
            round = round.0;
            times = start_by G F;
          },
          record {
            counts = counts;
            retiming = plan;
            delays = new_delay_lem G d (whole r) legal;
            period = period_exists G W D F S some;
            rounds = ends;
            back = c.1;
            room = computed_room G d start.0 round.0;
            start = start.1;
            round = round.1;
            times = times_exist G W D F S;
          },
        )

    -- Whatever whole numbers serve, there is a plan, and it keeps its promise.
    pub plan_promised : Counts G G.q → RoundFires G d → 1 ≤ G.stations → (r : ℕ → ℤ) → Serves G d T r → (P : Plan G) × Promise G d T P
    plan_promised counts fires some r ok =
        let x = plan_exists G W d T fires r ok in
        let p = plan_of_lem counts fires some x.0 x.1 x.2 in
        (p.0, kept G W d T p.0 p.1)

    -- The start list never has more than (N - 1) × N entries.
    pub start_bound : (P : Plan G) → PlanHolds G d T P → 1 ≤ total G → length P.start + total G ≤ total G * total G
    start_bound P h pos =
        let a = back_bound d T h.rounds.searched P.back h.back in
        let b = rounds_bound G W d T h.rounds pos in
        let c : suc P.back ≤ total G = omega arith in
        omega (arith, start_length_lem G d P.retiming P.back P.start h.start, mul-le-mul_right (total G) c)

    -- Two plans that hold what the paper defines are the same.
    pub plan_once : (P P' : Plan G) → PlanHolds G d T P → PlanHolds G d T P' → SamePlan G P P'
    plan_once P P' h h' = record {
      retiming = same;
      delay = delay;
      room = λ e. peak_once G (h.room e) (rw (sym start, sym round) at (h'.room e));
      period = period_once G P.delay P.period P'.period h.period (rw (sym D) at h'.period);
      rounds = rounds_once G W d T h.rounds h'.rounds;
      back = back;
      start = start;
      round = round;
      times = λ v i c.
          times_once G W P.delay _ (round_ranked G W P.delay (round_of_list G W P.delay P.round h.round)) P.times P'.times h.times (rw (sym D) at h'.times) v i c;
    }
      where
        same : (v : ℕ) → v < G.stations → P.retiming v ≡ P'.retiming v
        same v k = omega (arith, h.retiming.least P'.retiming h'.retiming.serves v k, h'.retiming.least P.retiming h.retiming.serves v k)

        delay : (e : G.Queue) → P.delay e ≡ P'.delay e
        delay e =
            omega (arith, plan_retimed G W d T P h e, plan_retimed G W d T P' h' e, ap (λ (x : ℕ). G.produced e * x) (same (G.source e) (W.leaves e)), ap (λ (x : ℕ). G.consumed e * x) (same (G.sink e) (W.enters e)))

        D : P.delay ≡ P'.delay
        D = fun_ext delay

        back : P.back ≡ P'.back
        back = back_once P.retiming P'.retiming P.back P'.back same h.back h'.back

        wanted : (v : ℕ) → v < G.stations → P'.back * G.q v - P'.retiming v ≡ P.back * G.q v - P.retiming v
        wanted v k = ap₂ (λ (x y : ℕ). x * G.q v - y) (sym back) (sym (same v k))

        start : P.start ≡ P'.start
        start = list_once G _ P'.start h.start (list_same G (λ v. P'.back * G.q v - P'.retiming v) (λ v. P.back * G.q v - P.retiming v) wanted h'.start)

        round : P.round ≡ P'.round
        round = list_once G G.q P'.round h.round (rw (sym D) at h'.round)
