-- A round run side by side takes what every run takes, and leaves what the next round begins with.
use mathlib.Core.Path.{◌≡◌, refl, sym, ap, ap₂, ◌∙◌}
use mathlib.Core.List.{List, [], ◌∷◌, ◌++◌, append-nil, Memᴰ}
use mathlib.Core.Logic.{◌⊎◌, inl, inr}
use Prim.Native.Nat.{ℕ, suc, ◌+◌, ◌-◌, ◌*◌, ◌≤◌, ◌<◌}
use native.Mathlib.Nat.{add-zero, mul-le-mul_right}
use native.Mathlib.Omega.{arith}
use native.Mathlib.Decide.{ℕ_discrete, dec_le, dec_lt}
use lib.ListN.{length, take, drop}
use Rattle.dataflow.specs.Net.{Net, Sound}
use Rattle.dataflow.specs.Copies.{Copy}
use Rattle.dataflow.specs.Runs.{Token, made, list_from, whenever, State}
use Rattle.dataflow.specs.Times.{finish, TimeTable}
use Rattle.dataflow.specs.Origin.{token_at}
use Rattle.dataflow.specs.Timed.{Event, starts, finishes, Happens, start_order, finish_order, needed, Before, Timeline, over, next, event, after_events, FoundBy}
use Rattle.dataflow.proofs.FeedLaws.{feed_last}
use Rattle.dataflow.proofs.CopyLaws.{inside, inside_of, source_count, sink_count}
use Rattle.dataflow.proofs.RunLaws.{Holds, holds_length, holds_take, holds_put, HoldsAt}

-- the numbers of an event, and whether it is a start
abbrev pub station : Event → ℕ
station (starts v i) = v
station (finishes v i) = v

abbrev pub copy : Event → ℕ
copy (starts v i) = i
copy (finishes v i) = i

abbrev pub kind : Event → ℕ
kind (starts v i) = 0
kind (finishes v i) = 1

module _ (G : Net) (W : Sound G) (D : G.Queue → ℕ) (start : ℕ → ℕ → ℕ) (table : TimeTable G D start)
    (rise : (v i j : ℕ) → Copy G v i → Copy G v j → i ≤ j → start v i ≤ start v j) where
  -- Of each station v the copies up to A v are those of P.
  record Upto (P : (v i : ℕ) → Type 0) (A : ℕ → ℕ) : Type 0 where
    all : (v i : ℕ) → 1 ≤ i → i ≤ A v → P v i
    only : (v i : ℕ) → P v i → i ≤ A v
    most : (v : ℕ) → A v ≤ G.q v

  -- the next copy of a station: when the lower ones are there, and it isn't
  next_copy : {P : (v i : ℕ) → Type 0} {A : ℕ → ℕ} (v j : ℕ) → Upto P A → Copy G v j → ¬ P v j → (Copy G v (suc (A v)) → suc (A v) < j → P v (suc (A v))) → j ≡ suc (A v)
  next_copy {P} {A} v j u c new lower = go (dec_le j (A v)) (dec_lt (suc (A v)) j)
    where
      go : Dec (j ≤ A v) → Dec (suc (A v) < j) → j ≡ suc (A v)
      go (yes a) b = absurd (new (u.all v j c.low a))
      go (no a) (no b) = omega arith
      go (no a) (yes b) = absurd (omega (arith, u.only v (suc (A v)) (lower (omega (arith, c.high)) b)))

  -- with it there is one more of that station
  one_more : {P P' : (v i : ℕ) → Type 0} {A : ℕ → ℕ} (v j : ℕ) → Upto P A → Copy G v j → j ≡ suc (A v) → ((w i : ℕ) → P w i → P' w i) → ((w i : ℕ) → w ≡ v → i ≡ j → P' w i)
      → ((w i : ℕ) → P' w i → ((w ≡ v) × (i ≡ j)) ⊎ P w i) → Upto P' (λ w. A w + whenever (ℕ_discrete w v) 1)
  one_more {P} {P'} {A} v j u c n stays new from = record {
    all = λ w i lo hi. now w i lo (ℕ_discrete w v) hi;
    only = λ w i p. was w i (ℕ_discrete w v) (from w i p);
    most = λ w. at_most w (ℕ_discrete w v);
  }
    where
      at_most : (w : ℕ) (x : Dec (w ≡ v)) → A w + whenever x 1 ≤ G.q w
      at_most w (yes x) = omega (arith, c.high, ap A x, ap G.q x)
      at_most w (no x) = omega (arith, u.most w)

      now : (w i : ℕ) → 1 ≤ i → (x : Dec (w ≡ v)) → i ≤ A w + whenever x 1 → P' w i
      now w i lo (no x) hi = stays w i (u.all w i lo (omega arith))
      now w i lo (yes x) hi = elim (dec_le i (A w)) [ yes l ↦ stays w i (u.all w i lo l) | no l ↦ new w i x (omega (arith, ap A x)) ]

      was : (w i : ℕ) (x : Dec (w ≡ v)) → ((w ≡ v) × (i ≡ j)) ⊎ P w i → i ≤ A w + whenever x 1
      was w i (yes x) (inl e) = omega (arith, e.1, ap A x)
      was w i (no x) (inl e) = absurd (x e.0)
      was w i x (inr p) = omega (arith, u.only w i p)

  as_before : {P P' : (v i : ℕ) → Type 0} {A : ℕ → ℕ} → Upto P A → ((w i : ℕ) → P w i → P' w i) → ((w i : ℕ) → P' w i → P w i) → Upto P' A
  as_before u there back = record { all = λ w i lo hi. there w i (u.all w i lo hi); only = λ w i p. u.only w i (back w i p); most = u.most }

  -- Of each station v the copies up to A v have started, and those up to B v have finished.
  record Stage (done : List Event) (A B : ℕ → ℕ) : Type 0 where
    started : Upto (λ v i. Memᴰ (starts v i) done) A
    finished : Upto (λ v i. Memᴰ (finishes v i) done) B

  -- what the first event of a timeline says
  record Opened (done : List Event) (a : Event) (l : List Event) : Type 0 where
    happens : Happens G D start a
    new : ¬ Memᴰ a done
    ready : (b : Event) → Happens G D start b → Before G D start b a → Memᴰ b done
    rest : Timeline G D start (a ∷ done) l

  opened : {done l : List Event} {a : Event} → Timeline G D start done (a ∷ l) → Opened done a l
  opened (next h n r t) = record { happens = h; new = n; ready = r; rest = t }

  -- the copies of a station start, and finish, in their order
  start_number : {done l : List Event} {A B : ℕ → ℕ} {v j : ℕ} → Stage done A B → Opened done (starts v j) l → j ≡ suc (A v)
  start_number {A = A} {v = v} {j = j} s o = next_copy v j s.started o.happens o.new (λ c b. o.ready (starts v (suc (A v))) c (before c b))
    where
      before : Copy G v (suc (A v)) → suc (A v) < j → Before G D start (starts v (suc (A v))) (starts v j)
      before c b = elim (dec_lt (start v (suc (A v))) (start v j)) [
        | yes l ↦ inl l
        | no l ↦ inr (omega (arith, rise v (suc (A v)) j c o.happens (omega arith)), start_order b)
      ]

  finish_number : {done l : List Event} {A B : ℕ → ℕ} {v j : ℕ} → Stage done A B → Opened done (finishes v j) l → j ≡ suc (B v)
  finish_number {B = B} {v = v} {j = j} s o = next_copy v j s.finished o.happens o.new (λ c b. o.ready (finishes v (suc (B v))) c (before c b))
    where
      before : Copy G v (suc (B v)) → suc (B v) < j → Before G D start (finishes v (suc (B v))) (finishes v j)
      before c b = elim (dec_lt (finish G start v (suc (B v))) (finish G start v j)) [
        | yes l ↦ inl l
        | no l ↦ inr (omega (arith, rise v (suc (B v)) j c o.happens (omega arith)), finish_order b)
      ]

  -- when copy j of the sink starts, the copies that have finished have put enough
  enough_put : {done l : List Event} {A B : ℕ → ℕ} {v j : ℕ} → Stage done A B → Opened done (starts v j) l → (e : G.Queue) → G.sink e ≡ v → j * G.consumed e ≤ D e + B (G.source e) * G.produced e
  enough_put {A = A} {B = B} {v = v} {j = j} s o e to = elim (dec_lt (D e) (j * G.consumed e)) [ yes l ↦ by_last l | no l ↦ omega arith ]
    where
      by_last : D e < j * G.consumed e → j * G.consumed e ≤ D e + B (G.source e) * G.produced e
      by_last l =
          let f = feed_last (D e) (G.produced e) (G.consumed e) j (W.makes e) (W.takes e) l in
          let c : Copy G (G.sink e) j = rw to o.happens in
          let dep = inside_of G W e f.1 c f.3 in
          let t = (table (G.sink e) j c).after e f.0 refl dep in
          let b : Before G D start (finishes (G.source e) f.0) (starts (G.sink e) j) =
          elim (dec_lt (finish G start (G.source e) f.0) (start (G.sink e) j)) [ yes x ↦ inl x | no x ↦ inr (omega arith, needed e dep) ] in
          let b' : Before G D start (finishes (G.source e) f.0) (starts v j) = rw to at b in
          let m = s.finished.only (G.source e) f.0 (o.ready (finishes (G.source e) f.0) (inside G W e dep).from b') in
          omega (arith, mul-le-mul_right (G.produced e) m, f.2)

  stage_start : {done : List Event} {A B : ℕ → ℕ} {v j : ℕ} → Stage done A B → Copy G v j → j ≡ suc (A v) → Stage (starts v j ∷ done) (λ w. A w + whenever (ℕ_discrete w v) 1) B
  stage_start {done} {A} {B} {v} {j} s c n = record {
    started = one_more v j s.started c n (λ w i. Memᴰ.tail) (λ w i x k. Memᴰ.head (ap₂ starts x k)) from;
    finished = as_before s.finished (λ w i. Memᴰ.tail) other;
  }
    where
      from : (w i : ℕ) → Memᴰ (starts w i) (starts v j ∷ done) → ((w ≡ v) × (i ≡ j)) ⊎ Memᴰ (starts w i) done
      from w i (Memᴰ.head e) = inl (ap station e, ap copy e)
      from w i (Memᴰ.tail m) = inr m

      other : (w i : ℕ) → Memᴰ (finishes w i) (starts v j ∷ done) → Memᴰ (finishes w i) done
      other w i (Memᴰ.head e) = absurd (omega (arith, ap kind e))
      other w i (Memᴰ.tail m) = m

  stage_finish : {done : List Event} {A B : ℕ → ℕ} {v j : ℕ} → Stage done A B → Copy G v j → j ≡ suc (B v) → Stage (finishes v j ∷ done) A (λ w. B w + whenever (ℕ_discrete w v) 1)
  stage_finish {done} {A} {B} {v} {j} s c n = record {
    started = as_before s.started (λ w i. Memᴰ.tail) other;
    finished = one_more v j s.finished c n (λ w i. Memᴰ.tail) (λ w i x k. Memᴰ.head (ap₂ finishes x k)) from;
  }
    where
      from : (w i : ℕ) → Memᴰ (finishes w i) (finishes v j ∷ done) → ((w ≡ v) × (i ≡ j)) ⊎ Memᴰ (finishes w i) done
      from w i (Memᴰ.head e) = inl (ap station e, ap copy e)
      from w i (Memᴰ.tail m) = inr m

      other : (w i : ℕ) → Memᴰ (starts w i) (finishes v j ∷ done) → Memᴰ (starts w i) done
      other w i (Memᴰ.head e) = absurd (omega (arith, ap kind e))
      other w i (Memᴰ.tail m) = m

  -- The round begins in S, in which the queues hold the tokens of their places by the delays d, D of them on each.
  module _ (d : G.Queue → ℕ) (S : State G) (begins : (e : G.Queue) → HoldsAt G d S e) (filled : (e : G.Queue) → length (S.holds e) ≡ D e) where
    abbrev Fill : (A B : ℕ → ℕ) → (G.Queue → List Token) → G.Queue → Type 0
    Fill A B H e = Holds (d e) (G.produced e) (G.consumed e) (S.fired (G.source e) + B (G.source e)) (S.fired (G.sink e) + A (G.sink e)) (H e)

    -- A round under way: the queues hold H, and the events of l are left.
    record Underway (H : G.Queue → List Token) (l : List Event) : Type 0 where
      done : List Event
      A : ℕ → ℕ
      B : ℕ → ℕ
      stage : Stage done A B
      left : Timeline G D start done l
      fill : (e : G.Queue) → Fill A B H e

    nothing_yet : {P : (v i : ℕ) → Event} → Upto (λ v i. Memᴰ (P v i) []) (λ v. 0)
    nothing_yet = record { all = λ v i lo hi. absurd (omega arith); only = λ v i m. elim m [ ]; most = λ v. omega arith }

    begun : {l : List Event} → Timeline G D start [] l → Underway S.holds l
    begun t = record {
      done = [];
      A = λ v. 0;
      B = λ v. 0;
      stage = record { started = nothing_yet; finished = nothing_yet };
      left = t;
      fill = λ e. rw (add-zero, add-zero) (begins e);
    }

    -- a copy that starts finds what it takes
    found_enough : {H : G.Queue → List Token} {l : List Event} {v j : ℕ} → Underway H (starts v j ∷ l) → (e : G.Queue) → G.sink e ≡ v → G.consumed e ≤ length (H e)
    found_enough {H} {l} {v} {j} u e to =
        let o = opened u.left in
        let n = start_number u.stage o in
        let p : j * G.consumed e ≡ suc (u.A (G.sink e)) * G.consumed e = ap (λ (x : ℕ). x * G.consumed e) (n ∙ ap (λ (w : ℕ). suc (u.A w)) (sym to)) in
        omega (
          arith,
          p,
          enough_put u.stage o e to,
          filled e,
          holds_length (d e) (G.produced e) (G.consumed e) _ _ _ (begins e),
          holds_length (d e) (G.produced e) (G.consumed e) _ _ _ (u.fill e),
        )

    go_on : (a : Event) {H : G.Queue → List Token} {l : List Event} → Underway H (a ∷ l) → Underway (event G S a H) l
    go_on (starts v j) {H} {l} u = record {
      done = starts v j ∷ u.done;
      A = λ w. u.A w + whenever (ℕ_discrete w v) 1;
      B = u.B;
      stage = stage_start u.stage (opened u.left).happens (start_number u.stage (opened u.left));
      left = (opened u.left).rest;
      fill = λ e. taken e (ℕ_discrete (G.sink e) v);
    }
      where
        taken : (e : G.Queue) (x : Dec (G.sink e ≡ v))
            → Holds (d e) (G.produced e) (G.consumed e) (S.fired (G.source e) + u.B (G.source e)) (S.fired (G.sink e) + (u.A (G.sink e) + whenever x 1)) (drop (whenever x (G.consumed e)) (H e))
        taken e (no x) = rw add-zero (u.fill e)
        taken e (yes x) =
            let n : S.fired (G.sink e) + (u.A (G.sink e) + 1) ≡ suc (S.fired (G.sink e) + u.A (G.sink e)) = omega arith in
            rw n (holds_take (d e) (G.produced e) (G.consumed e) _ _ (H e) (found_enough u e x) (u.fill e)).1
    go_on (finishes v j) {H} {l} u = record {
      done = finishes v j ∷ u.done;
      A = u.A;
      B = λ w. u.B w + whenever (ℕ_discrete w v) 1;
      stage = stage_finish u.stage (opened u.left).happens number;
      left = (opened u.left).rest;
      fill = λ e. put e (ℕ_discrete (G.source e) v);
    }
      where
        number : j ≡ suc (u.B v)
        number = finish_number u.stage (opened u.left)

        put : (e : G.Queue) (x : Dec (G.source e ≡ v))
            → Holds (d e) (G.produced e) (G.consumed e) (S.fired (G.source e) + (u.B (G.source e) + whenever x 1)) (S.fired (G.sink e) + u.A (G.sink e)) (H e ++ list_from (made (S.fired v + j)) 1 (whenever x (G.produced e)))
        put e (no x) = rw (add-zero, append-nil) (u.fill e)
        put e (yes x) =
            let n : S.fired (G.source e) + (u.B (G.source e) + 1) ≡ suc (S.fired (G.source e) + u.B (G.source e)) = omega arith in
            let m : S.fired v + j ≡ suc (S.fired (G.source e) + u.B (G.source e)) = omega (arith, number, ap S.fired x, ap u.B x) in
            rw (n, m) (holds_put (d e) (G.produced e) (G.consumed e) _ _ (H e) (u.fill e))

    reached : (earlier : List Event) {H : G.Queue → List Token} {l : List Event} → Underway H (earlier ++ l) → Underway (after_events G S H earlier) l
    reached [] u = u
    reached (a ∷ earlier) u = reached earlier (go_on a u)

    -- A copy finds enough on each queue, and takes the tokens of the places of its firing.
    pub found_is : {l : List Event} → Timeline G D start [] l → (e : G.Queue) (j : ℕ) (t : List Token) → FoundBy G S l e j t
        → (G.consumed e ≤ length t) × (take (G.consumed e) t ≡ list_from (token_at (d e) (G.produced e)) ((S.fired (G.sink e) + j - 1) * G.consumed e) (G.consumed e))
    found_is {l} t e j found f = at (reached f.earlier (begun (rw f.order at t)))
      where
        at : Underway (after_events G S S.holds f.earlier) (starts (G.sink e) j ∷ f.later)
            → (G.consumed e ≤ length found) × (take (G.consumed e) found ≡ list_from (token_at (d e) (G.produced e)) ((S.fired (G.sink e) + j - 1) * G.consumed e) (G.consumed e))
        at u =
            let enough = found_enough u e refl in
            let n : S.fired (G.sink e) + j - 1 ≡ S.fired (G.sink e) + u.A (G.sink e) = omega (arith, start_number u.stage (opened u.left)) in
            rw (f.are, n) (enough, (holds_take (d e) (G.produced e) (G.consumed e) _ _ _ enough (u.fill e)).0)

    -- At the end each queue holds the tokens of the places that are left when every copy has fired.
    pub ends_with : {l : List Event} → Timeline G D start [] l → (e : G.Queue)
        → Holds (d e) (G.produced e) (G.consumed e) (S.fired (G.source e) + G.q (G.source e)) (S.fired (G.sink e) + G.q (G.sink e)) (after_events G S S.holds l e)
    ends_with {l} t e = at (reached l (begun (rw (append-nil l) t)))
      where
        all : {done : List Event} → Timeline G D start done [] → (a : Event) → Happens G D start a → Memᴰ a done
        all (over h) = h

        at : Underway (after_events G S S.holds l) []
            → Holds (d e) (G.produced e) (G.consumed e) (S.fired (G.source e) + G.q (G.source e)) (S.fired (G.sink e) + G.q (G.sink e)) (after_events G S S.holds l e)
        at u =
            let s = u.stage in
            let v = G.source e in
            let w = G.sink e in
            let b = s.finished.only v (G.q v) (all u.left (finishes v (G.q v)) (omega (arith, source_count G W e))) in
            let a = s.started.only w (G.q w) (all u.left (starts w (G.q w)) (omega (arith, sink_count G W e))) in
            let b' : G.q v ≡ u.B v = omega (arith, s.finished.most v) in
            let a' : G.q w ≡ u.A w = omega (arith, s.started.most w) in
            rw (a', b') (u.fill e)

-- What follows from the order of the events alone, whatever the table.
module _ (G : Net) (D : G.Queue → ℕ) (start : ℕ → ℕ → ℕ) where
  -- an event of the list happens
  pub happens_at : (earlier : List Event) {done : List Event} (a : Event) (later : List Event) → Timeline G D start done (earlier ++ a ∷ later) → Happens G D start a
  happens_at [] a later (next h n r t) = h
  happens_at (x ∷ earlier) a later (next h n r t) = happens_at earlier a later t

  -- each event of the round is done or in the list
  pub all_in : {done l : List Event} → Timeline G D start done l → (a : Event) → Happens G D start a → Memᴰ a done ⊎ Memᴰ a l
  all_in (over h) a c = inl (h a c)
  all_in (next {done = done} {l = l} {a = x} h n r t) a c = go (all_in t a c)
    where
      go : Memᴰ a (x ∷ done) ⊎ Memᴰ a l → Memᴰ a done ⊎ Memᴰ a (x ∷ l)
      go (inl (Memᴰ.head e)) = inr (Memᴰ.head e)
      go (inl (Memᴰ.tail m)) = inl m
      go (inr m) = inr (Memᴰ.tail m)

split_at : {A : Type 0} {a : A} {l : List A} → Memᴰ a l → (earlier : List A) × (later : List A) × (l ≡ earlier ++ a ∷ later)
split_at (Memᴰ.head {xs = xs} e) = ([], xs, ap (λ y. y ∷ xs) (sym e))
split_at (Memᴰ.tail {x = x} m) = let s = split_at m in (x ∷ s.0, s.1, ap (λ y. x ∷ y) s.2)

module _ (G : Net) (S : State G) where
  -- Each copy of the sink starts, and finds something.
  pub found_exists : (D : G.Queue → ℕ) (start : ℕ → ℕ → ℕ) {l : List Event} → Timeline G D start [] l → (e : G.Queue) (j : ℕ) → Copy G (G.sink e) j → (t : List Token) × FoundBy G S l e j t
  found_exists D start {l} t e j c = elim (all_in G D start t (starts (G.sink e) j) c) [ inl m ↦ elim m [ ] | inr m ↦ at (split_at m) ]
    where
      at : (earlier : List Event) × (later : List Event) × (l ≡ earlier ++ starts (G.sink e) j ∷ later) → (t : List Token) × FoundBy G S l e j t
      at s = (_, record { earlier = s.0; later = s.1; order = s.2; are = refl })
