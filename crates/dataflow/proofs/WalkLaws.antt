-- The forward walk: the copies of a round in the order of a list that fires it. A copy that starts later than those before it of its station pushes its finish into the first takers of its
-- tokens; a copy starts at the latest that was pushed into it, or with the copy before it. This makes the time table.
use mathlib.Core.Path.{◌≡◌, refl, sym, ap, ◌∙◌}
use mathlib.Core.Logic.{◌⊎◌, inl, inr}
use Prim.Native.Nat.{ℕ, zero, suc, ◌+◌, ◌*◌, ◌/◌, ◌≤◌, ◌<◌, max}
use native.Mathlib.Nat.{lt_of_mul-lt-mul_right}
use native.Mathlib.Omega.{arith}
use native.Mathlib.Decide.{dec_le, ℕ_discrete}
use Rattle.dataflow.specs.Net.{Net, Sound}
use Rattle.dataflow.specs.Copies.{Copy, Dependence}
use Rattle.dataflow.specs.Times.{finish, Latest, TimeTable}
use Rattle.dataflow.specs.Lists.{FedBy}
use Rattle.dataflow.proofs.FeedLaws.{Feed}
use Rattle.dataflow.proofs.TakerLaws.{FirstTaker, taker_is, taker_feed, taker_low}
use Rattle.dataflow.proofs.CopyLaws.{Inside, inside, inside_of}
use Rattle.dataflow.proofs.RankLaws.{Ranked}
use Rattle.dataflow.proofs.TimeLaws.{starts_rise, times_same}

-- Copy i of v starts later than every copy of v before it.
abbrev pub Rises : (s : ℕ → ℕ → ℕ) (v i : ℕ) → Type 0
Rises s v i = (j : ℕ) → 1 ≤ j → j < i → s v j < s v i

-- What the firings F took had been put, or was there before: fired(sink) × consumed ≤ delay + fired(source) × produced.
abbrev pub AllPut : (G : Net) (D : G.Queue → ℕ) (F : ℕ → ℕ) → Type 0
AllPut G D F = (e : G.Queue) → F (G.sink e) * G.consumed e ≤ D e + F (G.source e) * G.produced e

-- F' is F with one firing of v more.
pub record OneMore (F : ℕ → ℕ) (v : ℕ) (F' : ℕ → ℕ) : Type 0 where
  pub own : F' v ≡ suc (F v)
  pub others : (w : ℕ) → (w ≡ v → ⊥) → F' w ≡ F w

-- Copy i of u pushes along every queue out of u: the table t becomes t'.
module _ (G : Net) (D : G.Queue → ℕ) (u i : ℕ) (t : ℕ → ℕ → ℕ) where
  -- x was handed to copy j of v along some queue.
  pub record HandedOn (v j x : ℕ) : Type 0 where
    pub queue : G.Queue
    pub from : G.source queue ≡ u
    pub to : G.sink queue ≡ v
    pub taker : FirstTaker (D queue) (G.produced queue) (G.consumed queue) i j
    pub is : x ≡ finish G t u i + G.cost queue

  pub record PushesOn (t' : ℕ → ℕ → ℕ) : Type 0 where
    pub rises : (v j : ℕ) → Copy G v j → t v j ≤ t' v j
    pub reached : (e : G.Queue) (g : ℕ) → G.source e ≡ u → FirstTaker (D e) (G.produced e) (G.consumed e) i g → Copy G (G.sink e) g → finish G t u i + G.cost e ≤ t' (G.sink e) g
    pub is : (v j : ℕ) → Copy G v j → (t' v j ≡ t v j) ⊎ HandedOn v j (t' v j)

-- s is the time table, t the table of the walk.
module _ (G : Net) (D : G.Queue → ℕ) (s : ℕ → ℕ → ℕ) where
  -- With the firings F done, copy h of the source of e has pushed along e.
  pub record HasPushed (F : ℕ → ℕ) (e : G.Queue) (h : ℕ) : Type 0 where
    pub first : 1 ≤ h
    pub done : h ≤ F (G.source e)
    pub rises : Rises s (G.source e) h

  -- x is what some copy pushed into copy i of v.
  pub record PushedBy (F : ℕ → ℕ) (v i x : ℕ) : Type 0 where
    pub queue : G.Queue
    pub copy : ℕ
    pub to : G.sink queue ≡ v
    pub pushed : HasPushed F queue copy
    pub taker : FirstTaker (D queue) (G.produced queue) (G.consumed queue) copy i
    pub is : x ≡ finish G s (G.source queue) copy + G.cost queue

  -- x is the latest of all that was pushed into copy i of v, else 0.
  pub record Pushed (F : ℕ → ℕ) (v i x : ℕ) : Type 0 where
    pub after : (e : G.Queue) (h : ℕ) → G.sink e ≡ v → HasPushed F e h → FirstTaker (D e) (G.produced e) (G.consumed e) h i → finish G s (G.source e) h + G.cost e ≤ x
    pub is : (x ≡ 0) ⊎ PushedBy F v i x

  -- The firings P have pushed. The entries of the first F v copies of v are final, and each other entry is the latest of what was pushed into it.
  pub record Walked (P F : ℕ → ℕ) (t : ℕ → ℕ → ℕ) : Type 0 where
    pub final : (v i : ℕ) → Copy G v i → i ≤ F v → t v i ≡ s v i
    pub pending : (v i : ℕ) → Copy G v i → F v < i → Pushed P v i (t v i)

  -- Before the first firing every entry is 0.
  pub walked_none : {F : ℕ → ℕ} {t : ℕ → ℕ → ℕ} → ((v : ℕ) → F v ≡ 0) → ((v i : ℕ) → Copy G v i → t v i ≡ 0) → Walked F F t
  walked_none {F} {t} none zeros = record {
    final = λ v i c h. absurd (omega (arith, none v, c.low));
    pending = λ v i c h. record { after = λ e k to m x. absurd (omega (arith, m.first, m.done, none (G.source e))); is = inl (zeros v i c) };
  }

  -- When every copy is done the table of the walk is the time table.
  pub walked_ends : Sound G → TimeTable G D s → {P F : ℕ → ℕ} {t : ℕ → ℕ → ℕ} → ((v i : ℕ) → Copy G v i → i ≤ F v) → Walked P F t → TimeTable G D t
  walked_ends W table {F = F} {t = t} all w = times_same G W D s t (λ v i c. sym (w.final v i c (all v i c))) table

  module _ (W : Sound G) (R : ℕ) (r : Ranked G D G.q R) (table : TimeTable G D s) where
    rise : (v i j : ℕ) → Copy G v i → i ≤ j → j ≤ G.q v → s v i ≤ s v j
    rise = starts_rise G W D R r s table

    -- later than the copy before it is later than all
    pub later_rises : (v i : ℕ) → suc i ≤ G.q v → (1 ≤ i → s v i < s v (suc i)) → Rises s v (suc i)
    later_rises v i hi later j lo h = omega (arith, later (omega arith), rise v j i (record { low = lo; high = omega arith }) (omega arith) (omega arith))

    -- A copy starts with some copy that starts later than those before it, itself or an earlier one.
    starts_with : (v i : ℕ) → Copy G v i → (h : ℕ) × (1 ≤ h) × (h ≤ i) × (s v h ≡ s v i) × Rises s v h
    starts_with v zero c = absurd (omega (arith, c.low))
    starts_with v (suc i) c = go (dec_le 1 i) (dec_le (s v (suc i)) (s v i)) (λ k. starts_with v i k)
      where
        go : Dec (1 ≤ i) → Dec (s v (suc i) ≤ s v i) → (Copy G v i → (h : ℕ) × (1 ≤ h) × (h ≤ i) × (s v h ≡ s v i) × Rises s v h)
            → (h : ℕ) × (1 ≤ h) × (h ≤ suc i) × (s v h ≡ s v (suc i)) × Rises s v h
        go (yes a) (yes b) ih =
            let k : Copy G v i = omega (arith, c.high) in
            let x = ih k in
            (x.0, x.1, omega (arith, x.2), omega (arith, x.3, rise v i (suc i) k (omega arith) c.high), x.4)
        go (yes a) (no b) ih = (suc i, omega arith, omega arith, refl, later_rises v i c.high (λ k. omega arith))
        go (no a) b ih = (suc i, omega arith, omega arith, refl, later_rises v i c.high (λ k. absurd (a k)))

    -- The next copy of v, whose tokens are there.
    module _ (F : ℕ → ℕ) (v : ℕ) (fed : FedBy G D F v) (left : F v < G.q v) where
      next : Copy G v (suc (F v))
      next = record { low = omega arith; high = left }

      -- what it takes was put by firings that are done
      put_before : (e : G.Queue) (h : ℕ) → G.sink e ≡ v → Feed (D e) (G.produced e) (G.consumed e) h (suc (F v)) → h ≤ F (G.source e)
      put_before e h to f =
          let a = lt_of_mul-lt-mul_right (G.produced e) {m = h} {n = suc (F (G.source e))} (omega (arith, f.early, fed e to)) in
          omega arith

      -- It starts at the latest that was pushed into it, x, or with the copy before it, at y, whichever is later.
      pub walk_start : (x y : ℕ) → Pushed F v (suc (F v)) x → (F v ≡ 0 → y ≡ 0) → (1 ≤ F v → y ≡ s v (F v)) → s v (suc (F v)) ≡ max x y
      walk_start x y w none some = omega (arith, low_x w.is, low_y (dec_le 1 (F v)), high (table v (suc (F v)) next).is)
        where
          i : ℕ
          i = suc (F v)

          low_x : (x ≡ 0) ⊎ PushedBy F v i x → x ≤ s v i
          low_x (inl z) = omega arith
          low_x (inr z) =
              let e = z.queue in
              let c' : Copy G (G.sink e) i = rw z.to next in
              let f = taker_feed (D e) (G.produced e) (G.consumed e) z.copy i (W.makes e) z.taker in
              omega (arith, z.is, (table v i next).after e z.copy z.to (inside_of G W e z.pushed.first c' f))

          low_y : Dec (1 ≤ F v) → y ≤ s v i
          low_y (yes h) = omega (arith, some h, rise v (F v) i (omega arith) (omega arith) left)
          low_y (no h) = omega (arith, none (omega arith))

          -- a copy h that has pushed, and feeds copy i no earlier than by its first token
          by : (e : G.Queue) (h : ℕ) → G.sink e ≡ v → HasPushed F e (suc h) → (k : ℕ) → suc h ≤ k → Feed (D e) (G.produced e) (G.consumed e) k i → finish G s (G.source e) (suc h) + G.cost e ≤ max x y
          by e h to pushed k le feed = go (dec_le i g)
            where
              p : ℕ
              p = G.produced e

              c : ℕ
              c = G.consumed e

              g : ℕ
              g = suc ((D e + h * p) / c)

              taker : FirstTaker (D e) p c (suc h) g
              taker = taker_is (D e) p c h (W.takes e)

              low : g ≤ i
              low = taker_low (D e) p c (suc h) k g i taker feed le

              go : Dec (i ≤ g) → finish G s (G.source e) (suc h) + G.cost e ≤ max x y
              go (yes a) = let same : g ≡ i = omega (arith, low) in omega (arith, w.after e (suc h) to pushed (rw same at taker))
              go (no a) =
                  let here : Copy G (G.sink e) g = omega (arith, taker.first, left, low, ap G.q to) in
                  let here' : Copy G v g = rw to at here in
                  let dep : Dependence G D e (suc h) g 0 = inside_of G W e (omega arith) here (taker_feed (D e) p c (suc h) g (W.makes e) taker) in
                  omega (arith, taker.first, (table v g here').after e (suc h) to dep, rise v g (F v) here' (omega (arith, low)) (omega (arith, left)), some (omega (arith, taker.first, low)))

          by_any : (e : G.Queue) (k : ℕ) → G.sink e ≡ v → Dependence G D e k i 0 → finish G s (G.source e) k + G.cost e ≤ max x y
          by_any e k to dep = go (starts_with (G.source e) k m.from)
            where
              m : Inside G D e k i
              m = inside G W e dep

              go : (h : ℕ) × (1 ≤ h) × (h ≤ k) × (s (G.source e) h ≡ s (G.source e) k) × Rises s (G.source e) h → finish G s (G.source e) k + G.cost e ≤ max x y
              go (zero, lo, le, same, rises) = absurd (omega arith)
              go (suc h, lo, le, same, rises) =
                  omega (arith, same, by e h to (record { first = lo; done = omega (arith, put_before e k to m.feed); rises = rises }) k le m.feed)

          high : (s v i ≡ 0) ⊎ Latest G D s v i → s v i ≤ max x y
          high (inl z) = omega arith
          high (inr l) = omega (arith, l.is, by_any l.queue l.copy l.to l.needed)

      -- It is done: its entry becomes final, and its own pushes are still to be made.
      walked_fire : {F' : ℕ → ℕ} {t t' : ℕ → ℕ → ℕ} (y : ℕ) → OneMore F v F' → (F v ≡ 0 → y ≡ 0) → (1 ≤ F v → y ≡ t v (F v)) → t' v (suc (F v)) ≡ max (t v (suc (F v))) y
          → ((w j : ℕ) → Copy G w j → (w ≡ v → j ≡ suc (F v) → ⊥) → t' w j ≡ t w j)
          → Walked F F t → Walked F F' t'
      walked_fire {F'} {t} {t'} y more none some here others w = record { final = λ u j c h. final u j c h (ℕ_discrete u v); pending = λ u j c h. pending u j c h (ℕ_discrete u v) }
        where
          start : t' v (suc (F v)) ≡ s v (suc (F v))
          start = here ∙ sym (walk_start (t v (suc (F v))) y (w.pending v (suc (F v)) next (omega arith)) none (λ h. some h ∙ w.final v (F v) (omega arith) (omega arith)))

          final : (u j : ℕ) → Copy G u j → j ≤ F' u → Dec (u ≡ v) → t' u j ≡ s u j
          final u j c h (no x) = others u j c (λ a b. x a) ∙ w.final u j c (omega (arith, more.others u x))
          final u j c h (yes x) = rw x (go (rw x at c) (omega (arith, more.own, ap F' x)) (dec_le j (F v)))
            where
              go : Copy G v j → j ≤ suc (F v) → Dec (j ≤ F v) → t' v j ≡ s v j
              go c' b (yes a) = others v j c' (λ x y. omega arith) ∙ w.final v j c' a
              go c' b (no a) = let z : j ≡ suc (F v) = omega arith in rw z start

          pending : (u j : ℕ) → Copy G u j → F' u < j → Dec (u ≡ v) → Pushed F u j (t' u j)
          pending u j c h (no x) = rw (others u j c (λ a b. x a)) (w.pending u j c (omega (arith, more.others u x)))
          pending u j c h (yes x) = rw (others u j c (λ a b. omega (arith, more.own, ap F' x))) (w.pending u j c (omega (arith, more.own, ap F' x, ap F x)))

      -- What has pushed before still has, and no other copy has but this one, if it starts later than those before it.
      pushed_still : {F' : ℕ → ℕ} → OneMore F v F' → (e : G.Queue) (h : ℕ) → HasPushed F e h → HasPushed F' e h
      pushed_still {F'} more e h d = go (ℕ_discrete (G.source e) v)
        where
          go : Dec (G.source e ≡ v) → HasPushed F' e h
          go (yes a) = record { first = d.first; done = omega (arith, d.done, more.own, ap F a, ap F' a); rises = d.rises }
          go (no a) = record { first = d.first; done = omega (arith, d.done, more.others (G.source e) a); rises = d.rises }

      pushed_or_this : {F' : ℕ → ℕ} → OneMore F v F' → (e : G.Queue) (h : ℕ) → HasPushed F' e h → HasPushed F e h ⊎ ((G.source e ≡ v) × (h ≡ suc (F v)))
      pushed_or_this {F'} more e h d = go (ℕ_discrete (G.source e) v) (dec_le h (F (G.source e)))
        where
          go : Dec (G.source e ≡ v) → Dec (h ≤ F (G.source e)) → HasPushed F e h ⊎ ((G.source e ≡ v) × (h ≡ suc (F v)))
          go a (yes b) = inl (record { first = d.first; done = b; rises = d.rises })
          go (yes a) (no b) = inr (a, omega (arith, d.done, more.own, ap F a, ap F' a))
          go (no a) (no b) = absurd (b (omega (arith, d.done, more.others (G.source e) a)))

      pushed_by_still : {F' : ℕ → ℕ} → OneMore F v F' → {u j x : ℕ} → PushedBy F u j x → PushedBy F' u j x
      pushed_by_still more y = record { queue = y.queue; copy = y.copy; to = y.to; pushed = pushed_still more y.queue y.copy y.pushed; taker = y.taker; is = y.is }

      -- A copy into which nothing later was pushed starts with the copy before it, and has nothing to push: that copy pushed the same finish, or one did with which it started itself.
      pub walked_follows : {F' : ℕ → ℕ} {t t' : ℕ → ℕ → ℕ} → OneMore F v F' → 1 ≤ F v → t v (suc (F v)) ≤ t v (F v) → t' v (suc (F v)) ≡ t v (F v)
          → ((w j : ℕ) → Copy G w j → (w ≡ v → j ≡ suc (F v) → ⊥) → t' w j ≡ t w j)
          → Walked F F t → Walked F' F' t'
      walked_follows {F'} {t} {t'} more some low here others w = record { final = z.final; pending = pending }
        where
          z : Walked F F' t'
          z = walked_fire (t v (F v)) more (λ h. absurd (omega arith)) (λ h. refl) (omega (arith, here)) others w

          -- it starts with the copy before it
          not_later : Rises s v (suc (F v)) → ⊥
          not_later rises =
              omega (arith, rises (F v) some (omega arith), z.final v (suc (F v)) next (omega (arith, more.own)), here, w.final v (F v) (omega arith) (omega arith))

          pending : (u j : ℕ) → Copy G u j → F' u < j → Pushed F' u j (t' u j)
          pending u j c h = record { after = λ e k to d x. after e k to d x (pushed_or_this more e k d); is = is (z.pending u j c h).is }
            where
              after : (e : G.Queue) (k : ℕ) → G.sink e ≡ u → HasPushed F' e k → FirstTaker (D e) (G.produced e) (G.consumed e) k j → HasPushed F e k ⊎ ((G.source e ≡ v) × (k ≡ suc (F v)))
                  → finish G s (G.source e) k + G.cost e ≤ t' u j
              after e k to d x (inl a) = (z.pending u j c h).after e k to a x
              after e k to d x (inr a) = absurd (not_later (rw (a.0, a.1) at d.rises))

              is : (t' u j ≡ 0) ⊎ PushedBy F u j (t' u j) → (t' u j ≡ 0) ⊎ PushedBy F' u j (t' u j)
              is (inl a) = inl a
              is (inr a) = inr (pushed_by_still more a)

      -- It pushes only into copies that are not done, itself included.
      push_fresh : AllPut G D F → {F' : ℕ → ℕ} → OneMore F v F' → (e : G.Queue) (g : ℕ) → G.source e ≡ v → FirstTaker (D e) (G.produced e) (G.consumed e) (suc (F v)) g → F' (G.sink e) < g
      push_fresh put {F'} more e g from t = go (ℕ_discrete (G.sink e) v)
        where
          from' : F (G.source e) * G.produced e ≡ F v * G.produced e
          from' = ap (λ (u : ℕ). F u * G.produced e) from

          go : Dec (G.sink e ≡ v) → F' (G.sink e) < g
          go (yes x) =
              let a = lt_of_mul-lt-mul_right (G.consumed e) {m = suc (F v)} {n = g} (omega (arith, t.early, fed e x, from')) in
              omega (arith, more.own, ap F' x)
          go (no x) =
              let a = lt_of_mul-lt-mul_right (G.consumed e) {m = F (G.sink e)} {n = g} (omega (arith, t.early, put e, from')) in
              omega (arith, more.others (G.sink e) x)

      -- A copy that starts later than the copy before it, which its entry tells, pushes along all its queues.
      pub walked_pushes : {F' : ℕ → ℕ} {t t' : ℕ → ℕ → ℕ} → AllPut G D F → OneMore F v F' → (1 ≤ F v → t v (F v) < t v (suc (F v))) → PushesOn G D v (suc (F v)) t t'
          → Walked F F t → Walked F' F' t'
      walked_pushes {F'} {t} {t'} put more later pushes w = record { final = λ u j c h. final u j c h (pushes.is u j c); pending = pending }
        where
          i : ℕ
          i = suc (F v)

          z : Walked F F' t
          z = go (dec_le 1 (F v))
            where
              go : Dec (1 ≤ F v) → Walked F F' t
              go (yes a) = walked_fire (t v (F v)) more (λ h. absurd (omega arith)) (λ h. refl) (omega (arith, later a)) (λ u j c n. refl) w
              go (no a) = walked_fire 0 more (λ h. refl) (λ h. absurd (a h)) (omega arith) (λ u j c n. refl) w

          known : t v i ≡ s v i
          known = z.final v i next (omega (arith, more.own))

          rises : Rises s v i
          rises = later_rises v (F v) left (λ h. omega (arith, later h, known, w.final v (F v) (omega arith) (omega arith)))

          final : (u j : ℕ) → Copy G u j → j ≤ F' u → (t' u j ≡ t u j) ⊎ HandedOn G D v i t u j (t' u j) → t' u j ≡ s u j
          final u j c h (inl x) = x ∙ z.final u j c h
          final u j c h (inr x) = absurd (omega (arith, push_fresh put more x.queue j x.from x.taker, ap F' x.to))

          pending : (u j : ℕ) → Copy G u j → F' u < j → Pushed F' u j (t' u j)
          pending u j c h = record { after = λ e k to d x. after e k to x (pushed_or_this more e k d); is = is (pushes.is u j c) old.is }
            where
              old : Pushed F u j (t u j)
              old = z.pending u j c h

              after : (e : G.Queue) (k : ℕ) → G.sink e ≡ u → FirstTaker (D e) (G.produced e) (G.consumed e) k j → HasPushed F e k ⊎ ((G.source e ≡ v) × (k ≡ i))
                  → finish G s (G.source e) k + G.cost e ≤ t' u j
              after e k to x (inl a) = omega (arith, old.after e k to a x, pushes.rises u j c)
              after e k to x (inr a) =
                  let b = pushes.reached e j a.0 (rw a.1 at x) (rw to c) in
                  rw (a.1, a.0, ← known, ← to) b

              is : (t' u j ≡ t u j) ⊎ HandedOn G D v i t u j (t' u j) → (t u j ≡ 0) ⊎ PushedBy F u j (t u j) → (t' u j ≡ 0) ⊎ PushedBy F' u j (t' u j)
              is (inl x) (inl y) = inl (x ∙ y)
              is (inl x) (inr y) = inr (rw (← x) at (pushed_by_still more y))
              is (inr x) y = inr (record {
                queue = x.queue;
                copy = i;
                to = x.to;
                pushed = record { first = omega arith; done = omega (arith, more.own, ap F' x.from); rises = rw x.from rises };
                taker = x.taker;
                is = x.is ∙ rw (x.from, known);
              })
