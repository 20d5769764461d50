-- The time table: it exists, it is the only solution of its equations, and it goes by the largest sums.
use mathlib.Core.Path.{◌≡◌, refl, ap}
use mathlib.Core.Logic.{◌⊎◌, inl, inr}
use Prim.Native.Nat.{ℕ, zero, suc, ◌+◌, ◌-◌, ◌*◌, ◌≤◌, ◌<◌}
use native.Mathlib.Nat.{mul-le-mul_right, lt_of_mul-lt-mul_right}
use native.Mathlib.Omega.{arith}
use native.Mathlib.Decide.{dec_le, dec_lt}
use Rattle.dataflow.specs.Net.{Net, Sound}
use Rattle.dataflow.specs.Copies.{Copy, Dependence}
use Rattle.dataflow.specs.Paths.{Path, alone, step, Within, Period, Late}
use Rattle.dataflow.specs.Search.{HowMany}
use Rattle.dataflow.specs.Times.{finish, Latest, TimeTable}
use Rattle.dataflow.proofs.FeedLaws.{feed_last}
use Rattle.dataflow.proofs.CopyLaws.{Inside, inside, inside_of, copy_station}
use Rattle.dataflow.proofs.PathLaws.{path_end, step_to, path_up}
use Rattle.dataflow.proofs.LateLaws.{many_dec}
use Rattle.dataflow.proofs.RankLaws.{Ranked}
use Rattle.dataflow.proofs.MaxLaws.{max_to, max_above, max_is}
use Rattle.dataflow.proofs.SumTable.{Sums}

-- Copy i of v starts when the copy that makes its last token along some queue has finished.
pub record HeldUp (G : Net) (D : G.Queue → ℕ) (start : ℕ → ℕ → ℕ) (v i : ℕ) : Type 0 where
  pub queue : G.Queue
  pub copy : ℕ
  pub to : G.sink queue ≡ v
  pub needed : Dependence G D queue copy i 0
  pub last : i * G.consumed queue ≤ D queue + copy * G.produced queue
  pub is : start v i ≡ finish G start (G.source queue) copy + G.cost queue

-- With F the largest sums: the start of a copy is the largest sum of a path that ends in it, without its own time ..
abbrev pub start_by : (G : Net) (F : ℕ → ℕ → ℕ) → ℕ → ℕ → ℕ
start_by G F v i = F v i - G.time v

-- .. and the largest sum of all is that of the last copy of some station.
abbrev pub longest : (G : Net) (F : ℕ → ℕ → ℕ) → ℕ
longest G F = max_to G.stations (λ v. F v (G.q v))

module _ (G : Net) (W : Sound G) (D : G.Queue → ℕ) where
  module _ (F : ℕ → ℕ → ℕ) (sums : Sums G D F) where
    at_least : (v i : ℕ) → Copy G v i → G.time v ≤ F v i
    at_least v i c = sums.above v i v i (G.time v) (alone c)

    pub times_exist : TimeTable G D (start_by G F)
    times_exist v i c = record { after = after; is = is (sums.reached v i c) }
      where
        after : (e : G.Queue) (h : ℕ) → G.sink e ≡ v → Dependence G D e h i 0 → finish G (start_by G F) (G.source e) h + G.cost e ≤ start_by G F v i
        after e h to x =
            let m = inside G W e x in
            let p = sums.reached (G.source e) h m.from in
            let a = sums.above p.0 p.1 v i _ (step_to G W e to p.2 x) in
            omega (arith, at_least (G.source e) h m.from)

        last : {u f w j S : ℕ} → Path G D u f w j S → w ≡ v → j ≡ i → S ≡ F v i → (start_by G F v i ≡ 0) ⊎ Latest G D (start_by G F) v i
        last (alone {v = w} k) ew ej eS = inl (omega (arith, ap G.time ew))
        last (step {h = h} {j = j} {S = S} e p x) ew ej eS =
            let m = inside G W e x in
            let p' = sums.reached (G.source e) h m.from in
            let x' : Dependence G D e h i 0 = rw ej at x in
            let a = sums.above p'.0 p'.1 v i _ (step_to G W e ew p'.2 x') in
            let b = sums.above _ _ (G.source e) h S p in
            inr (record { queue = e; copy = h; to = ew; needed = x'; is = omega (arith, at_least (G.source e) h m.from, ap G.time ew) })

        is : (u : ℕ) × (h : ℕ) × Path G D u h v i (F v i) → (start_by G F v i ≡ 0) ⊎ Latest G D (start_by G F) v i
        is p = last p.2 refl refl refl

    -- starts rise with the copies: only the last token's maker matters
    pub sums_rise : (v i j : ℕ) → Copy G v i → i ≤ j → j ≤ G.q v → F v i ≤ F v j
    sums_rise v i j c le hi =
        let p = sums.reached v i c in
        let k = path_up G W j p.2 le hi in
        sums.above p.0 k.0 v j (F v i) k.2

    unfoldable pub late_dec : (T v i : ℕ) → Dec (Late G D T v i)
    late_dec T v i = go (dec_le 1 i) (dec_le i (G.q v)) (dec_lt T (F v i))
      where
        go : Dec (1 ≤ i) → Dec (i ≤ G.q v) → Dec (T < F v i) → Dec (Late G D T v i)
        go (no a) b c = no (λ l. omega (arith, path_end G W l.path))
        go (yes a) (no b) c = no (λ l. omega (arith, path_end G W l.path))
        go (yes a) (yes b) (no c) = no (λ l. omega (arith, sums.above l.first l.first_copy v i l.sum l.path, l.slow))
        go (yes a) (yes b) (yes c) = let p = sums.reached v i (record { low = a; high = b }) in yes (record { first = p.0; first_copy = p.1; sum = F v i; path = p.2; slow = c })

    pub lates_exist : (T : ℕ) → (late : ℕ → ℕ) × ((v : ℕ) → HowMany (Late G D T v) (G.q v) (late v))
    lates_exist T = ((λ v. (many_dec (Late G D T v) (late_dec T v) (G.q v)).0), λ v. (many_dec (Late G D T v) (late_dec T v) (G.q v)).1)

    pub longest_above : Within G D (longest G F)
    longest_above u h v i S p =
        let c = path_end G W p in
        omega (arith, sums.above u h v i S p, sums_rise v i (G.q v) c c.high (omega arith), max_above G.stations (λ w. F w (G.q w)) v (copy_station G W c))

    pub period_exists : 1 ≤ G.stations → Period G D (longest G F)
    period_exists pos = go (longest G F) refl (max_is G.stations (λ v. F v (G.q v)))
      where
        made : (P v : ℕ) → v < G.stations → P ≡ F v (G.q v) → Within G D P → Period G D P
        made P v h e w =
            let k = W.counts.positive v h in
            let p = sums.reached v (G.q v) (omega arith) in
            record { first = p.0; first_copy = p.1; last = v; last_copy = G.q v; reached = rw e p.2; passed_by_none = w }

        go : (P : ℕ) → (longest G F) ≡ P → (P ≡ 0) ⊎ ((v : ℕ) × (v < G.stations) × (P ≡ F v (G.q v))) → Period G D P
        go P e (inr z) = made P z.0 z.1 z.2 (rw e at longest_above)
        go P e (inl z) = made P 0 pos (omega (arith, max_above G.stations (λ w. F w (G.q w)) 0 pos)) (rw e at longest_above)

  -- any solution of the equations goes by the largest sums
  module _ (R : ℕ) (r : Ranked G D G.q R) (start : ℕ → ℕ → ℕ) (table : TimeTable G D start) where
    pub path_below : {u h v i S : ℕ} → Path G D u h v i S → S ≤ start v i + G.time v
    path_below (alone c) = omega arith
    path_below (step {h = h} {j = j} e p x) =
        let m = inside G W e x in
        omega (arith, path_below p, (table (G.sink e) j m.to).after e h refl x)

    path_reaches : (k v i : ℕ) → Copy G v i → r.rank v i < k → (u : ℕ) × (h : ℕ) × Path G D u h v i (start v i + G.time v)
    path_reaches zero v i c h = absurd (omega arith)
    path_reaches (suc k) v i c h = go (table v i c).is (λ u f a b. path_reaches k u f a b)
      where
        go : (start v i ≡ 0) ⊎ Latest G D start v i → ((u f : ℕ) → Copy G u f → r.rank u f < k → (w : ℕ) × (x : ℕ) × Path G D w x u f (start u f + G.time u))
            → (u : ℕ) × (h : ℕ) × Path G D u h v i (start v i + G.time v)
        go (inl z) ih = let e : start v i + G.time v ≡ G.time v = omega arith in rw e (v, i, alone c)
        go (inr l) ih =
            let m = inside G W l.queue l.needed in
            let u = r.up l.queue l.copy i m.from.low m.to.high m.feed in
            let p = ih (G.source l.queue) l.copy m.from (omega (arith, u.1, ap (λ (w : ℕ). r.rank w i) l.to)) in
            rw l.is (p.0, p.1, step_to G W l.queue l.to p.2 l.needed)

    pub table_sums : Sums G D (λ v i. start v i + G.time v)
    table_sums = record { above = λ u h v i S p. path_below p; reached = λ v i c. path_reaches R v i c (r.top v i c.low c.high) }

  -- The last token decides: of the copies that a copy needs along a queue, the last is the one that can hold it up.
  module _ (R : ℕ) (r : Ranked G D G.q R) (start : ℕ → ℕ → ℕ) (table : TimeTable G D start) where
    pub starts_rise : (v i j : ℕ) → Copy G v i → i ≤ j → j ≤ G.q v → start v i ≤ start v j
    starts_rise v i j c le hi = omega (arith, sums_rise (λ v i. start v i + G.time v) (table_sums R r start table) v i j c le hi)

    pub last_token_decides : (v i : ℕ) → Copy G v i → (start v i ≡ 0) ⊎ HeldUp G D start v i
    last_token_decides v i c = go (table v i c).is
      where
        go : (start v i ≡ 0) ⊎ Latest G D start v i → (start v i ≡ 0) ⊎ HeldUp G D start v i
        go (inl z) = inl z
        go (inr l) = by_last l.queue l.copy l.to l.is (inside G W l.queue l.needed)
          where
            by_last : (e : G.Queue) (h : ℕ) → G.sink e ≡ v → start v i ≡ finish G start (G.source e) h + G.cost e → Inside G D e h i → (start v i ≡ 0) ⊎ HeldUp G D start v i
            by_last e h to is m =
                let k = feed_last (D e) (G.produced e) (G.consumed e) i (W.makes e) (W.takes e) (omega (arith, m.feed, mul-le-mul_right (G.produced e) m.from.low)) in
                let later : h ≤ k.0 = omega (arith, lt_of_mul-lt-mul_right (G.produced e) {m = h} {n = suc k.0} (omega (arith, m.feed, k.2))) in
                let x = inside_of G W e k.1 m.to k.3 in
                inr (record {
                  queue = e;
                  copy = k.0;
                  to = to;
                  needed = x;
                  last = k.2;
                  is = omega (arith, is, (table v i c).after e k.0 to x, starts_rise (G.source e) h k.0 m.from later (inside G W e x).from.high);
                })

  -- a table that agrees on every copy is as good
  pub times_same : (s s' : ℕ → ℕ → ℕ) → ((v i : ℕ) → Copy G v i → s v i ≡ s' v i) → TimeTable G D s → TimeTable G D s'
  times_same s s' same t v i c = record {
    after = λ e h to x. omega (arith, same (G.source e) h (inside G W e x).from, same v i c, (t v i c).after e h to x);
    is = pick (t v i c).is;
  }
    where
      pick : (s v i ≡ 0) ⊎ Latest G D s v i → (s' v i ≡ 0) ⊎ Latest G D s' v i
      pick (inl z) = inl (omega (arith, same v i c))
      pick (inr l) =
          inr (record { queue = l.queue; copy = l.copy; to = l.to; needed = l.needed; is = omega (arith, l.is, same v i c, same (G.source l.queue) l.copy (inside G W l.queue l.needed).from) })

  -- The time table is the only solution of its equations.
  pub times_once : (R : ℕ) → Ranked G D G.q R → (s s' : ℕ → ℕ → ℕ) → TimeTable G D s → TimeTable G D s' → (v i : ℕ) → Copy G v i → s v i ≡ s' v i
  times_once R r s s' t t' v i c =
      let p = (table_sums R r s t).reached v i c in
      let p' = (table_sums R r s' t').reached v i c in
      omega (arith, path_below R r s t p'.2, path_below R r s' t' p.2)
