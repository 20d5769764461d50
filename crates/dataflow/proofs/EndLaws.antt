-- The search ends at the plan's retiming, within N - 1 raising rounds, or no whole numbers serve.
use mathlib.Core.Path.{◌≡◌, refl, sym, ap, ◌∙◌, fun_ext}
use mathlib.Core.Logic.{◌⊎◌, inl, inr}
use Prim.Native.Nat.{ℕ, zero, suc, ◌+◌, ◌-◌, ◌≤◌, ◌<◌}
use native.Mathlib.Nat.{le_refl}
use native.Mathlib.Omega.{arith}
use native.Mathlib.Decide.{dec_le, dec_lt}
use lib.IntN.{ℤ}
use Rattle.dataflow.specs.Net.{Net, Sound}
use Rattle.dataflow.specs.Counts.{sum, total}
use Rattle.dataflow.specs.Stuck.{RoundFires}
use Rattle.dataflow.specs.Retiming.{whole, retimed, Legal, Serves, PlanRetiming}
use Rattle.dataflow.specs.Search.{HowMany, LateUnder, Searched, nothing, raise, SearchEnds}
use Rattle.dataflow.proofs.PathLaws.{path_end}
use Rattle.dataflow.proofs.CopyLaws.{copy_station}
use Rattle.dataflow.proofs.SumLaws.{sum_lt}
use Rattle.dataflow.proofs.WholeLaws.{lift, lift_serves}
use Rattle.dataflow.proofs.LateLaws.{lates_of, few_of, many_once}
use Rattle.dataflow.proofs.SearchLaws.{search_legal, search_below, search_serves, rounds_bound}
use Rattle.dataflow.proofs.StuckLaws.{legal_ranked}
use Rattle.dataflow.proofs.SumTable.{sums}
use Rattle.dataflow.proofs.TimeLaws.{lates_exist}

-- some place below n where f is positive, or none
some_positive : (n : ℕ) (f : ℕ → ℕ) → ((v : ℕ) × (1 ≤ f v)) ⊎ ((v : ℕ) → v < n → f v ≡ 0)
some_positive zero f = inr (λ v h. absurd (omega arith))
some_positive (suc n) f = go (dec_le 1 (f n)) (some_positive n f)
  where
    go : Dec (1 ≤ f n) → ((v : ℕ) × (1 ≤ f v)) ⊎ ((v : ℕ) → v < n → f v ≡ 0) → ((v : ℕ) × (1 ≤ f v)) ⊎ ((v : ℕ) → v < suc n → f v ≡ 0)
    go (yes p) r = inl (n, p)
    go (no p) (inl r) = inl r
    go (no p) (inr r) = inr (λ v h. elim (dec_lt v n) [ yes l ↦ r v l | no l ↦ let e : v ≡ n = omega arith in rw e (omega arith) ])

-- what the search comes to, from round k on
pub record Ended (G : Net) (d : G.Queue → ℕ) (T k : ℕ) : Type 0 where
  pub rounds : ℕ
  pub retiming : ℕ → ℕ
  pub from : k ≤ rounds
  pub ends : SearchEnds G d T rounds retiming

module _ (G : Net) (W : Sound G) (d : G.Queue → ℕ) (T : ℕ) where
  -- where the search ends is the plan's retiming
  pub ends_at_plan : {k : ℕ} {r : ℕ → ℕ} → SearchEnds G d T k r → PlanRetiming G d T r
  ends_at_plan h = record { serves = search_serves G W d T h; least = λ s ok v k. search_below G W d T s ok h.searched v }

  none_late_of : (r late : ℕ → ℕ) → ((v : ℕ) → HowMany (LateUnder G d T r v) (G.q v) (late v)) → ((v : ℕ) → v < G.stations → late v ≡ 0) → (v i : ℕ) → ¬ LateUnder G d T r v i
  none_late_of r late h z v i l =
      let c = path_end G W l.path in
      omega (arith, (lates_of G W (retimed G d (whole r)) T late h).only v i l, z v (copy_station G W c), c.high)

  -- any whole numbers that serve, of either sign, give some with no negative entry
  pub serves_positive : (r : ℕ → ℤ) → Serves G d T r → (s : ℕ → ℕ) × Serves G d T (whole s)
  serves_positive r ok = (lift G r, lift_serves G d W T r ok)

  module _ (fires : RoundFires G d) where
    count : (r : ℕ → ℕ) → Legal G d (whole r) → (late : ℕ → ℕ) × ((v : ℕ) → HowMany (LateUnder G d T r v) (G.q v) (late v))
    count r legal = let k = legal_ranked G W d fires (whole r) legal in lates_exist G W (retimed G d (whole r)) _ (sums G W (retimed G d (whole r)) k.0 k.1) T

    -- one round more
    record Raised (k : ℕ) (r : ℕ → ℕ) : Type 0 where
      r' : ℕ → ℕ
      searched : Searched G d T (suc k) r'
      rise : (v : ℕ) → r v ≤ r' v
      v : ℕ
      station : v < G.stations
      more : r v < r' v

    round : {k : ℕ} {r : ℕ → ℕ} → Searched G d T k r → SearchEnds G d T k r ⊎ Raised k r
    round {k} {r} z = let c = count r (search_legal G W d T z) in go c.0 c.1 (some_positive G.stations c.0)
      where
        go : (late : ℕ → ℕ) → ((v : ℕ) → HowMany (LateUnder G d T r v) (G.q v) (late v)) → ((v : ℕ) × (1 ≤ late v)) ⊎ ((v : ℕ) → v < G.stations → late v ≡ 0) → SearchEnds G d T k r ⊎ Raised k r
        go late h (inr a) = inl (record { searched = z; none_late = none_late_of r late h a })
        go late h (inl w) = inr (record {
          r' = λ v. r v + late v;
          searched = raise late z h w (λ v. refl);
          rise = λ v. omega arith;
          v = w.0;
          station = copy_station G W {v = w.0} {i = 1} (omega (arith, few_of (h w.0), w.1));
          more = omega (arith, w.1);
        })

    module _ (s : ℕ → ℕ) (ok : Serves G d T (whole s)) where
      on : (fuel : ℕ) {k : ℕ} {r : ℕ → ℕ} → Searched G d T k r → sum G.stations (λ v. s v - r v) < fuel → Ended G d T k
      on zero z m = absurd (omega arith)
      on (suc fuel) {k} {r} z m = go (round z) (λ r' z'. on fuel {k = suc k} {r = r'} z')
        where
          go : SearchEnds G d T k r ⊎ Raised k r → ((r' : ℕ → ℕ) → Searched G d T (suc k) r' → sum G.stations (λ v. s v - r' v) < fuel → Ended G d T (suc k)) → Ended G d T k
          go (inl e) ih = record { rounds = k; retiming = r; from = le_refl k; ends = e }
          go (inr x) ih =
              let b = search_below G W d T s ok x.searched x.v in
              let l = sum_lt G.stations (λ v. s v - x.r' v) (λ v. s v - r v) (λ v. omega (arith, x.rise v)) x.v x.station (omega (arith, x.more)) in
              let y = ih x.r' x.searched (omega arith) in
              record { rounds = y.rounds; retiming = y.retiming; from = omega (arith, y.from); ends = y.ends }

      pub ends_from : {k : ℕ} {r : ℕ → ℕ} → Searched G d T k r → Ended G d T k
      ends_from z = on _ z (le_refl _)

    -- The plan's retiming exists if any whole numbers serve, and the search finds it.
    pub plan_exists : (r : ℕ → ℤ) → Serves G d T r → (k : ℕ) × (s : ℕ → ℕ) × SearchEnds G d T k s
    plan_exists r ok = let p = serves_positive r ok in let x = ends_from p.0 p.1 (nothing {r = λ v. 0} (λ v. refl)) in (x.rounds, x.retiming, x.ends)

    -- With N raising rounds behind it a search is on the way to nothing.
    pub too_long : {k : ℕ} {s : ℕ → ℕ} → Searched G d T k s → 1 ≤ total G → total G ≤ k → (r : ℕ → ℤ) → ¬ Serves G d T r
    too_long z pos long r ok =
        let p = serves_positive r ok in
        let x = ends_from p.0 p.1 z in
        omega (arith, x.from, rounds_bound G W d T x.ends pos)

    -- So the search ends with fewer than N raising rounds, or no whole numbers serve.
    on_to_N : (fuel : ℕ) {k : ℕ} {r : ℕ → ℕ} → Searched G d T k r → 1 ≤ total G → k + fuel ≡ total G → ((n : ℕ) × (s : ℕ → ℕ) × SearchEnds G d T n s) ⊎ ((z : ℕ → ℤ) → ¬ Serves G d T z)
    on_to_N zero z pos e = inr (too_long z pos (omega arith))
    on_to_N (suc fuel) {k} {r} z pos e = go (round z) (λ r' z'. on_to_N fuel {k = suc k} {r = r'} z' pos (omega arith))
      where
        go : SearchEnds G d T k r ⊎ Raised k r → ((r' : ℕ → ℕ) → Searched G d T (suc k) r' → ((n : ℕ) × (s : ℕ → ℕ) × SearchEnds G d T n s) ⊎ ((z : ℕ → ℤ) → ¬ Serves G d T z))
            → ((n : ℕ) × (s : ℕ → ℕ) × SearchEnds G d T n s) ⊎ ((z : ℕ → ℤ) → ¬ Serves G d T z)
        go (inl x) ih = inl (k, r, x)
        go (inr x) ih = ih x.r' x.searched

    pub ends_or_none : 1 ≤ total G → ((k : ℕ) × (r : ℕ → ℕ) × SearchEnds G d T k r) ⊎ ((z : ℕ → ℤ) → ¬ Serves G d T z)
    ends_or_none pos = on_to_N (total G) (nothing {r = λ v. 0} (λ v. refl)) pos (omega arith)

  -- The search has one course: the count of its rounds and its end are determined.
  pub searched_once : {k : ℕ} {r r' : ℕ → ℕ} → Searched G d T k r → Searched G d T k r' → (v : ℕ) → r v ≡ r' v
  searched_once (nothing z) (nothing z') v = z v ∙ sym (z' v)
  searched_once (raise {r = a} late z h w eq) (raise {r = b} late' z' h' w' eq') v =
      let ba : b ≡ a = fun_ext (λ w. sym (searched_once z z' w)) in
      let m : late v ≡ late' v = many_once (late' v) (h v) (rw ba at (h' v)) in
      omega (arith, eq v, eq' v, m, ap (λ (f : ℕ → ℕ). f v) ba)

  -- a copy that was late before the round after k
  record Earlier (k : ℕ) : Type 0 where
    r : ℕ → ℕ
    searched : Searched G d T k r
    v : ℕ
    i : ℕ
    late : LateUnder G d T r v i

  earlier : (k : ℕ) {m : ℕ} {r : ℕ → ℕ} → Searched G d T m r → k < m → Earlier k
  earlier k (nothing z) h = absurd (omega arith)
  earlier k (raise {k = m} {r = r} late z hl w eq) h = go (dec_lt k m) (λ l. earlier k z l)
    where
      go : Dec (k < m) → (k < m → Earlier k) → Earlier k
      go (yes l) ih = ih l
      go (no l) ih =
          let e : m ≡ k = omega arith in
          let few = few_of (hl w.0) in
          let c = (lates_of G W (retimed G d (whole r)) T late hl).last w.0 (G.q w.0) (omega (arith, w.1)) (omega (arith, w.1)) in
          record { r = r; searched = rw e at z; v = w.0; i = G.q w.0; late = c }

  no_earlier : {k k' : ℕ} {r r' : ℕ → ℕ} → SearchEnds G d T k r → SearchEnds G d T k' r' → ¬ (k < k')
  no_earlier {r = r} h h' l =
      let x = earlier _ h'.searched l in
      let e : x.r ≡ r = fun_ext (λ w. searched_once x.searched h.searched w) in
      h.none_late x.v x.i (rw e at x.late)

  pub rounds_once : {k k' : ℕ} {r r' : ℕ → ℕ} → SearchEnds G d T k r → SearchEnds G d T k' r' → k ≡ k'
  rounds_once h h' = omega (arith, no_earlier h h', no_earlier h' h)
