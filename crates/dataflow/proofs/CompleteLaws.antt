-- Firing lists either complete or stall.
use mathlib.Core.Path.{◌≡◌, refl, ap}
use mathlib.Core.List.{List, [], ◌∷◌}
use mathlib.Core.Logic.{◌⊎◌, inl, inr}
use Prim.Native.Nat.{ℕ, zero, suc, ◌+◌, ◌-◌, ◌*◌, ◌≤◌, ◌<◌}
use native.Mathlib.Nat.{le_refl, mul-le-mul_right, lt_of_mul-lt-mul_right}
use native.Mathlib.Omega.{arith}
use native.Mathlib.Decide.{ℕ_discrete, dec_lt}
use Rattle.dataflow.specs.Net.{Net, Sound}
use Rattle.dataflow.specs.Counts.{sum}
use Rattle.dataflow.specs.Runs.{State, initially, whenever, fire, Ready}
use Rattle.dataflow.specs.Lists.{FiringList, complete, next}
use Rattle.dataflow.proofs.FeedLaws.{feed_last}
use Rattle.dataflow.proofs.Decide.{Lacking, ready_or_lacking}
use Rattle.dataflow.proofs.SumLaws.{sum_lt}
use Rattle.dataflow.proofs.RunLaws.{HoldsAt, holds_fire, holds_initially, holds_length}
use Rattle.dataflow.proofs.StallLaws.{Short}
use Rattle.dataflow.proofs.RankLaws.{Ranked, far, far_rises}

-- the lowest number below n with a property that can be decided, or none
pub record Lowest (P : ℕ → Type 0) (n : ℕ) : Type 0 where
  pub v : ℕ
  pub below : v < n
  pub is : P v
  pub none_lower : (w : ℕ) → w < v → ¬ P w

pub lowest : {P Q : ℕ → Type 0} → ((v : ℕ) → P v ⊎ Q v) → ((v : ℕ) → Q v → ¬ P v) → (n : ℕ) → Lowest P n ⊎ ((v : ℕ) → v < n → Q v)
lowest test apart zero = inr (λ v h. absurd (omega arith))
lowest {P} {Q} test apart (suc n) = go (lowest test apart n) (test n)
  where
    go : Lowest P n ⊎ ((v : ℕ) → v < n → Q v) → P n ⊎ Q n → Lowest P (suc n) ⊎ ((v : ℕ) → v < suc n → Q v)
    go (inl l) t = inl (record { v = l.v; below = omega (arith, l.below); is = l.is; none_lower = l.none_lower })
    go (inr h) (inl p) = inl (record { v = n; below = omega arith; is = p; none_lower = λ w k. apart w (h w k) })
    go (inr h) (inr q) = inr (λ v k. elim (dec_lt v n) [ yes l ↦ h v l | no l ↦ let e : v ≡ n = omega arith in rw e q ])

module _ (G : Net) (wanted : ℕ → ℕ) where
  -- Firings are left, and each station that has some is short of tokens.
  pub record Stalled (D : G.Queue → ℕ) : Type 0 where
    pub fired : ℕ → ℕ
    pub v : ℕ
    pub left : fired v < wanted v
    pub short : (w : ℕ) → fired w < wanted w → Short G D fired w

module _ (G : Net) (D : G.Queue → ℕ) where
  -- a queue that lacks tokens, by the numbers of firings done
  pub short_of : (S : State G) → ((e : G.Queue) → HoldsAt G D S e) → (v : ℕ) → Lacking G S v → Short G D S.fired v
  short_of S h v r = record {
    queue = r.queue;
    to = r.to;
    lacks = omega (arith, r.lacks, holds_length (D r.queue) (G.produced r.queue) (G.consumed r.queue) _ _ (S.holds r.queue) (h r.queue), ap (λ (w : ℕ). S.fired w * G.consumed r.queue) r.to);
  }

module _ (G : Net) (W : Sound G) (D : G.Queue → ℕ) (wanted : ℕ → ℕ) (real : (v : ℕ) → 1 ≤ wanted v → v < G.stations) where
  -- v has firings left and is ready, or it has none left or lacks tokens
  Can : State G → ℕ → Type 0
  Can S v = (S.fired v < wanted v) × Ready G S v

  Cannot : State G → ℕ → Type 0
  Cannot S v = (wanted v ≤ S.fired v) ⊎ Lacking G S v

  can_or_cannot : (S : State G) (v : ℕ) → Can S v ⊎ Cannot S v
  unfolding Can Cannot
  can_or_cannot S v = go (dec_lt (S.fired v) (wanted v)) (ready_or_lacking G W S v)
    where
      go : Dec (S.fired v < wanted v) → Ready G S v ⊎ Lacking G S v → Can S v ⊎ Cannot S v
      go (yes a) (inl r) = inl (a, r)
      go (yes a) (inr r) = inr (inr r)
      go (no a) r = inr (inl (omega arith))

  apart : (S : State G) (v : ℕ) → Cannot S v → ¬ Can S v
  unfolding Can Cannot
  apart S v (inl a) c = omega (arith, c.0)
  apart S v (inr r) c = omega (arith, r.lacks, c.1 r.queue r.to)

  abbrev Ends : State G → Type 0
  Ends S = ((l : List ℕ) × FiringList G wanted S l) ⊎ Stalled G wanted D

  fire_on : (fuel : ℕ) (S : State G) → ((e : G.Queue) → HoldsAt G D S e) → ((v : ℕ) → S.fired v ≤ wanted v) → sum G.stations (λ v. wanted v - S.fired v) < fuel → Ends S
  unfolding Can Cannot
  fire_on zero S h few m = absurd (omega arith)
  fire_on (suc fuel) S h few m = go (lowest (can_or_cannot S) (apart S) G.stations) (λ v. fire_on fuel (fire G v S))
    where
      on : (v : ℕ) (r : Lowest (Can S) G.stations) → Ends (fire G r.v S) → Ends S
      on v r (inl t) = inl (r.v ∷ t.0, next (record { station = r.below; left = r.is.0; ready = r.is.1; lowest = λ w k a b. r.none_lower w k (a, b) }) t.1)
      on v r (inr t) = inr t

      stop : ((v : ℕ) → v < G.stations → Cannot S v) → ((v : ℕ) × (S.fired v < wanted v)) ⊎ ((v : ℕ) → v < G.stations → S.fired v ≡ wanted v) → Ends S
      stop c (inr z) = inl ([], complete z)
      stop c (inl z) = inr (record { fired = S.fired; v = z.0; left = z.1; short = λ w k. pick w k (c w (real w (omega arith))) })
        where
          pick : (w : ℕ) → S.fired w < wanted w → Cannot S w → Short G D S.fired w
          pick w k (inl a) = absurd (omega arith)
          pick w k (inr r) = short_of G D S h w r

      some_left : (n : ℕ) → ((v : ℕ) × (S.fired v < wanted v)) ⊎ ((v : ℕ) → v < n → S.fired v ≡ wanted v)
      some_left zero = inr (λ v k. absurd (omega arith))
      some_left (suc n) = pick (dec_lt (S.fired n) (wanted n)) (some_left n)
        where
          pick : Dec (S.fired n < wanted n) → ((v : ℕ) × (S.fired v < wanted v)) ⊎ ((v : ℕ) → v < n → S.fired v ≡ wanted v)
              → ((v : ℕ) × (S.fired v < wanted v)) ⊎ ((v : ℕ) → v < suc n → S.fired v ≡ wanted v)
          pick (yes a) r = inl (n, a)
          pick (no a) (inl r) = inl r
          pick (no a) (inr r) = inr (λ v k. elim (dec_lt v n) [ yes l ↦ r v l | no l ↦ let e : v ≡ n = omega arith in rw e (omega (arith, few n)) ])

      rises : (v : ℕ) → S.fired v < wanted v → (w : ℕ) → S.fired w + whenever (ℕ_discrete w v) 1 ≤ wanted w
      rises v k w = pick (ℕ_discrete w v)
        where
          pick : (x : Dec (w ≡ v)) → S.fired w + whenever x 1 ≤ wanted w
          pick (yes x) = omega (arith, k, ap S.fired x, ap wanted x)
          pick (no x) = omega (arith, few w)

      one_more : (v : ℕ) → 1 ≤ whenever (ℕ_discrete v v) 1
      one_more v = pick (ℕ_discrete v v)
        where
          pick : (x : Dec (v ≡ v)) → 1 ≤ whenever x 1
          pick (yes x) = le_refl 1
          pick (no x) = absurd (x refl)

      go : Lowest (Can S) G.stations ⊎ ((v : ℕ) → v < G.stations → Cannot S v)
          → ((v : ℕ) → ((e : G.Queue) → HoldsAt G D (fire G v S) e) → ((w : ℕ) → (fire G v S).fired w ≤ wanted w) → sum G.stations (λ w. wanted w - (fire G v S).fired w) < fuel → Ends (fire G v S)) → Ends S
      go (inr c) ih = stop c (some_left G.stations)
      go (inl r) ih = on r.v r (ih r.v (λ e. holds_fire G D S r.v r.is.1 e (h e)) (rises r.v r.is.0)
          (omega (arith, sum_lt G.stations (λ w. wanted w - (fire G r.v S).fired w) (λ w. wanted w - S.fired w) (λ w. omega arith) r.v r.below (omega (arith, r.is.0, one_more r.v)))))

  pub complete_or_stalled : ((l : List ℕ) × FiringList G wanted (initially G D) l) ⊎ Stalled G wanted D
  complete_or_stalled = fire_on _ (initially G D) (holds_initially G D) (λ v. omega arith) (le_refl (suc (sum G.stations (λ v. wanted v - 0))))

  -- Where ranks exist and no queue is left below 0, no list stalls.
  module _ (R : ℕ) (r : Ranked G D G.q R) (legal : (e : G.Queue) → wanted (G.sink e) * G.consumed e ≤ D e + wanted (G.source e) * G.produced e) (s : Stalled G wanted D) where
    never : (fuel v g : ℕ) → s.fired v < g → g ≤ wanted v → far G W D R r v g < fuel → ⊥
    never zero v g lo hi h = omega arith
    never (suc fuel) v g lo hi h = go (s.short v (omega arith)) (λ u f a b c. never fuel u f a b c)
      where
        go : Short G D s.fired v → ((u f : ℕ) → s.fired u < f → f ≤ wanted u → far G W D R r u f < fuel → ⊥) → ⊥
        go x ih =
            let e : G.Queue = x.queue in
            let up = mul-le-mul_right (G.consumed e) lo in
            let k = feed_last (D e) (G.produced e) (G.consumed e) g (W.makes e) (W.takes e) (omega (arith, x.lacks)) in
            let a : s.fired (G.source e) * G.produced e < k.0 * G.produced e = omega (arith, x.lacks, k.2) in
            let hi' : g ≤ wanted (G.sink e) = rw x.to hi in
            let b : k.0 * G.produced e < suc (wanted (G.source e)) * G.produced e = omega (arith, k.3, legal e, mul-le-mul_right (G.consumed e) hi') in
            let a' = lt_of_mul-lt-mul_right (G.produced e) a in
            let b' = lt_of_mul-lt-mul_right (G.produced e) b in
            let f = far_rises G W D R r e k.0 g (omega arith) (omega arith) k.3 in
            ih (G.source e) k.0 a' (omega arith) (omega (arith, f, ap (λ (w : ℕ). far G W D R r w g) x.to))

    pub never_stalls : ⊥
    never_stalls = never (suc (far G W D R r s.v (wanted s.v))) s.v (wanted s.v) s.left (le_refl _) (omega arith)

  pub list_completes : (R : ℕ) → Ranked G D G.q R → ((e : G.Queue) → wanted (G.sink e) * G.consumed e ≤ D e + wanted (G.source e) * G.produced e)
      → (l : List ℕ) × FiringList G wanted (initially G D) l
  list_completes R r legal = elim complete_or_stalled [ inl t ↦ t | inr s ↦ absurd (never_stalls R r legal s) ]
