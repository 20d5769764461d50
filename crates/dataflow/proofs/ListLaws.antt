-- Firing lists: each is a run, fires what is wanted, has a known length, and is the only one.
use mathlib.Core.Path.{◌≡◌, refl, ap, ◌∙◌}
use mathlib.Core.List.{List, ◌∷◌}
use Prim.Native.Nat.{ℕ, zero, suc, ◌+◌, ◌-◌, ◌*◌, ◌≤◌, ◌<◌}
use native.Mathlib.Omega.{arith}
use native.Mathlib.Decide.{ℕ_discrete, dec_lt}
use lib.ListN.{length}
use Rattle.dataflow.specs.Net.{Net}
use Rattle.dataflow.specs.Counts.{sum, total}
use Rattle.dataflow.specs.Runs.{State, whenever, fire, after, Run, ended, fires}
use Rattle.dataflow.specs.Lists.{FiringList, complete, next, StartList, RoundList}
use Rattle.dataflow.proofs.SumLaws.{sum_same, sum_le, sum_none, sum_times}

-- one number of a sum is one larger
sum_one_beyond : (n : ℕ) (f : ℕ → ℕ) (v : ℕ) → n ≤ v → sum n (λ w. f w + whenever (ℕ_discrete w v) 1) ≡ sum n f
sum_one_beyond zero f v h = refl
sum_one_beyond (suc n) f v h = go (ℕ_discrete n v) (sum_one_beyond n f v (omega arith))
  where
    go : (x : Dec (n ≡ v)) → sum n (λ w. f w + whenever (ℕ_discrete w v) 1) ≡ sum n f → sum n (λ w. f w + whenever (ℕ_discrete w v) 1) + (f n + whenever x 1) ≡ sum n f + f n
    go (yes e) ih = absurd (omega arith)
    go (no e) ih = omega arith

pub sum_one : (n : ℕ) (f : ℕ → ℕ) (v : ℕ) → v < n → sum n (λ w. f w + whenever (ℕ_discrete w v) 1) ≡ suc (sum n f)
sum_one zero f v h = absurd (omega arith)
sum_one (suc n) f v h = go (ℕ_discrete n v) (λ k. sum_one n f v k)
  where
    go : (x : Dec (n ≡ v)) → (v < n → sum n (λ w. f w + whenever (ℕ_discrete w v) 1) ≡ suc (sum n f)) → sum n (λ w. f w + whenever (ℕ_discrete w v) 1) + (f n + whenever x 1) ≡ suc (sum n f + f n)
    go (yes e) ih = omega (arith, sum_one_beyond n f v (omega arith))
    go (no e) ih = omega (arith, ih (omega arith))

module _ (G : Net) (wanted : ℕ → ℕ) where
  -- a firing list is a run, and fires what is wanted
  pub list_run : {S : State G} {l : List ℕ} → FiringList G wanted S l → Run G S l
  list_run (complete h) = ended
  list_run (next n t) = fires n.station n.ready (list_run t)

  pub list_fired : {S : State G} {l : List ℕ} → FiringList G wanted S l → (v : ℕ) → v < G.stations → (after G S l).fired v ≡ wanted v
  list_fired (complete h) = h
  list_fired (next n t) = list_fired t

  -- there is no second
  pub list_once : {S : State G} {l : List ℕ} (l' : List ℕ) → FiringList G wanted S l → FiringList G wanted S l' → l ≡ l'
  list_once l' (complete h) (complete h') = refl
  list_once l' (complete h) (next {v = v} n t) = absurd (omega (arith, n.left, h v n.station))
  list_once l' (next {v = v} n t) (complete h) = absurd (omega (arith, n.left, h v n.station))
  list_once l' (next {S = S} {v = v} {l = l} n t) (next {v = v'} {l = l''} n' t') = go (dec_lt v v') (dec_lt v' v) (λ k. list_once l'' t k)
    where
      go : Dec (v < v') → Dec (v' < v) → (FiringList G wanted (fire G v S) l'' → l ≡ l'') → v ∷ l ≡ v' ∷ l''
      go (yes a) b ih = absurd (n'.lowest v a n.left n.ready)
      go (no a) (yes b) ih = absurd (n.lowest v' b n'.left n'.ready)
      go (no a) (no b) ih = let e : v' ≡ v = omega arith in rw e (ap (λ (x : List ℕ). v ∷ x) (ih (rw e at t')))

  pub list_length : {S : State G} {l : List ℕ} → FiringList G wanted S l → length l + sum G.stations S.fired ≡ sum G.stations wanted
  list_length (complete {S = S} h) = omega (arith, sum_same G.stations S.fired wanted h)
  list_length (next {S = S} {v = v} n t) = omega (arith, list_length t, sum_one G.stations S.fired v n.station)

-- a run has as many entries as firings
pub run_length : (G : Net) {S : State G} {l : List ℕ} → Run G S l → length l + sum G.stations S.fired ≡ sum G.stations (after G S l).fired
run_length G ended = omega arith
run_length G (fires {S = S} {v = v} here ready run) = omega (arith, run_length G run, sum_one G.stations S.fired v here)

-- what is wanted beyond the last station plays no part
pub list_same : (G : Net) (wanted wanted' : ℕ → ℕ) → ((v : ℕ) → v < G.stations → wanted v ≡ wanted' v) → {S : State G} {l : List ℕ} → FiringList G wanted S l → FiringList G wanted' S l
list_same G wanted wanted' same (complete h) = complete (λ v k. h v k ∙ same v k)
list_same G wanted wanted' same (next {S = S} {v = v} n t) =
    next {S = S} (record {
      station = n.station;
      left = omega (arith, n.left, same v n.station);
      ready = n.ready;
      lowest = λ w k a. n.lowest w k (omega (arith, same w (omega (arith, n.station))));
    }) (list_same G wanted wanted' same t)

-- the round list has N entries, the start list at most back × N
pub round_length : (G : Net) (D : G.Queue → ℕ) (l : List ℕ) → RoundList G D l → length l ≡ total G
round_length G D l h = omega (arith, list_length G G.q h, sum_none G.stations)

pub start_length_lem : (G : Net) (d : G.Queue → ℕ) (r : ℕ → ℕ) (c : ℕ) (l : List ℕ) → StartList G d r c l → length l ≤ c * total G
start_length_lem G d r c l h =
    omega (arith, list_length G (λ v. c * G.q v - r v) h, sum_le G.stations (λ v. c * G.q v - r v) (λ v. c * G.q v) (λ v. omega arith), sum_times G.stations c G.q)
