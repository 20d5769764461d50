-- The largest sum of a zero-delay path that ends in each copy: computed, reached, never passed.
use mathlib.Core.Path.{◌≡◌, refl, ap, ◌∙◌}
use mathlib.Core.Logic.{◌⊎◌, inl, inr}
use Prim.Native.Nat.{ℕ, zero, suc, ◌+◌, ◌*◌, ◌≤◌, ◌<◌}
use native.Mathlib.Omega.{arith}
use native.Mathlib.Decide.{dec_le, dec_lt, ℕ_discrete}
use Rattle.dataflow.specs.Net.{Net, Sound}
use Rattle.dataflow.specs.Copies.{Copy}
use Rattle.dataflow.specs.Paths.{Path, alone, step}
use Rattle.dataflow.proofs.FeedLaws.{Feed}
use Rattle.dataflow.proofs.CopyLaws.{inside, inside_of}
use Rattle.dataflow.proofs.PathLaws.{path_end, step_to}
use Rattle.dataflow.proofs.RankLaws.{Ranked}
use Rattle.dataflow.proofs.MaxLaws.{max_to, max_above, max_is, max_over, over_above, over_is}

-- a number that counts only where X holds
abbrev if_yes_value : {X : Type 0} → Dec X → (X → ℕ) → ℕ
if_yes_value (yes x) f = f x
if_yes_value (no x) f = 0

if_yes : {X : Type 0} (w : Dec X) (f : X → ℕ) (a : ℕ) → X → ((x : X) → a ≤ f x) → a ≤ if_yes_value w f
if_yes (yes x) f a h l = l x
if_yes (no n) f a h l = absurd (n h)

module _ (G : Net) (D : G.Queue → ℕ) where
  -- F v i is the largest sum of a path that ends in copy i of v.
  pub record Sums (F : ℕ → ℕ → ℕ) : Type 0 where
    pub above : (u h v i S : ℕ) → Path G D u h v i S → S ≤ F v i
    pub reached : (v i : ℕ) → Copy G v i → (u : ℕ) × (h : ℕ) × Path G D u h v i (F v i)

  -- copy i of v takes from copy h of the source of e
  pub record Edge (e : G.Queue) (v h i : ℕ) : Type 0 where
    pub to : G.sink e ≡ v
    pub low : 1 ≤ h
    pub feeds : Feed (D e) (G.produced e) (G.consumed e) h i

  unfoldable pub edge_dec : (e : G.Queue) (v h i : ℕ) → Dec (Edge e v h i)
  edge_dec e v h i = go (ℕ_discrete (G.sink e) v) (dec_le 1 h) (dec_lt (D e + h * G.produced e) (i * G.consumed e + G.produced e)) (dec_lt (i * G.consumed e) (D e + h * G.produced e + G.consumed e))
    where
      go : Dec (G.sink e ≡ v) → Dec (1 ≤ h) → Dec (D e + h * G.produced e < i * G.consumed e + G.produced e) → Dec (i * G.consumed e < D e + h * G.produced e + G.consumed e) → Dec (Edge e v h i)
      go (no x) b c d = no (λ z. x z.to)
      go (yes a) (no x) c d = no (λ z. x z.low)
      go (yes a) (yes b) (no x) d = no (λ z. x z.feeds.early)
      go (yes a) (yes b) (yes c) (no x) = no (λ z. x z.feeds.late)
      go (yes a) (yes b) (yes c) (yes d) = yes (record { to = a; low = b; feeds = record { early = c; late = d } })

  -- it, along paths of at most k copies
  unfoldable pub latest : (k v i : ℕ) → ℕ
  latest zero v i = 0
  latest (suc k) v i = G.time v + max_over G.queues (λ e. max_to (suc (G.q (G.source e))) (λ h. if_yes_value (edge_dec e v h i) (λ x. latest k (G.source e) h + G.cost e)))

  -- what copy h of the source of e adds, what queue e adds
  from_copy : (k v i : ℕ) → G.Queue → ℕ → ℕ
  from_copy k v i e h = if_yes_value (edge_dec e v h i) (λ x. latest k (G.source e) h + G.cost e)

  from_queue : (k v i : ℕ) → G.Queue → ℕ
  from_queue k v i e = max_to (suc (G.q (G.source e))) (from_copy k v i e)

  latest_is : (k v i : ℕ) → latest (suc k) v i ≡ G.time v + max_over G.queues (from_queue k v i)
  unfolding latest from_queue from_copy
  latest_is k v i = refl

  -- a copy that feeds copy i of v, and is the latest of them
  record From (k v i M : ℕ) : Type 0 where
    e : G.Queue
    h : ℕ
    edge : Edge e v h i
    high : h ≤ G.q (G.source e)
    is : M ≡ latest k (G.source e) h + G.cost e

  best : (k v i : ℕ) → (max_over G.queues (from_queue k v i) ≡ 0) ⊎ From k v i (max_over G.queues (from_queue k v i))
  unfolding from_queue from_copy
  best k v i = go (over_is G.queues (from_queue k v i))
    where
      M : ℕ
      M = max_over G.queues (from_queue k v i)

      at : (e : G.Queue) (h : ℕ) → h ≤ G.q (G.source e) → (w : Dec (Edge e v h i)) → M ≡ if_yes_value w (λ x. latest k (G.source e) h + G.cost e) → (M ≡ 0) ⊎ From k v i M
      at e h hi (yes w) eq = inr (record { e = e; h = h; edge = w; high = hi; is = eq })
      at e h hi (no w) eq = inl eq

      inner : (e : G.Queue) → M ≡ from_queue k v i e → (from_queue k v i e ≡ 0) ⊎ ((h : ℕ) × (h < suc (G.q (G.source e))) × (from_queue k v i e ≡ from_copy k v i e h)) → (M ≡ 0) ⊎ From k v i M
      inner e eq (inl z) = inl (eq ∙ z)
      inner e eq (inr z) = at e z.0 (omega (arith, z.1)) (edge_dec e v z.0 i) (eq ∙ z.2)

      go : (M ≡ 0) ⊎ ((e : G.Queue) × (M ≡ from_queue k v i e)) → (M ≡ 0) ⊎ From k v i M
      go (inl z) = inl z
      go (inr z) = inner z.0 z.1 (max_is (suc (G.q (G.source z.0))) (from_copy k v i z.0))

module _ (G : Net) (W : Sound G) (D : G.Queue → ℕ) (R : ℕ) (r : Ranked G D G.q R) where
  above : (k : ℕ) {u f v i S : ℕ} → Path G D u f v i S → r.rank v i < k → S ≤ latest G D k v i
  unfolding from_queue from_copy
  above zero p h = absurd (omega arith)
  above (suc k) (alone {v = v} {i = i} c) h = omega (arith, latest_is G D k v i)
  above (suc k) (step {h = w} {j = j} {S = S} e p x) h =
      let m = inside G W e x in
      let u = r.up e w j m.from.low m.to.high m.feed in
      let v = G.sink e in
      let i = above k p (omega (arith, u.1)) in
      let a : S + G.cost e ≤ from_copy G D k v j e w = if_yes (edge_dec G D e v w j) _ _ (record { to = refl; low = m.from.low; feeds = m.feed }) (λ y. omega arith) in
      omega (arith, latest_is G D k v j, max_above (suc (G.q (G.source e))) (from_copy G D k v j e) w (omega (arith, m.from.high)), over_above (from_queue G D k v j) (W.named e))

  abbrev To : ℕ → ℕ → ℕ → Type 0
  To v i S = (u : ℕ) × (f : ℕ) × Path G D u f v i S

  reached : (k v i : ℕ) → Copy G v i → r.rank v i < k → To v i (latest G D k v i)
  reached zero v i c h = absurd (omega arith)
  reached (suc k) v i c h = rw (latest_is G D k v i) (go _ (best G D k v i) (λ u f a b. reached k u f a b))
    where
      go : (M : ℕ) → (M ≡ 0) ⊎ From G D k v i M → ((u f : ℕ) → Copy G u f → r.rank u f < k → To u f (latest G D k u f)) → To v i (G.time v + M)
      go M (inl z) ih = let e : G.time v + M ≡ G.time v = omega arith in rw e (v, i, alone c)
      go M (inr x) ih =
          let c' : Copy G (G.sink x.e) i = rw x.edge.to c in
          let u = r.up x.e x.h i x.edge.low c'.high x.edge.feeds in
          let p = ih (G.source x.e) x.h (omega (arith, x.high, x.edge.low)) (omega (arith, u.1, ap (λ (w : ℕ). r.rank w i) x.edge.to)) in
          let e : G.time v + M ≡ latest G D k (G.source x.e) x.h + G.cost x.e + G.time v = omega (arith, x.is) in
          rw e (p.0, p.1, step_to G W x.e x.edge.to p.2 (inside_of G W x.e x.edge.low c' x.edge.feeds))

  -- Where ranks exist the largest sums are computed so.
  pub sums : Sums G D (latest G D R)
  sums = record {
    above = λ u h v i S p. above R p (r.top v i (path_end G W p).low (path_end G W p).high);
    reached = λ v i c. reached R v i c (r.top v i c.low c.high);
  }
