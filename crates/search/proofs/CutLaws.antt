-- The laws of a round cut in two: either part can be fired alone, and the second before the first.
use mathlib.Core.Path.{◌≡◌, ap, ◌∙◌}
use mathlib.Core.List.{List, ◌∷◌, ◌++◌}
use Prim.Native.Nat.{ℕ, suc, ◌+◌, ◌*◌, ◌≤◌, ◌<◌}
use native.Mathlib.Nat.{mul-le-mul_right, add-zero}
use native.Mathlib.Omega.{arith}
use native.Mathlib.Decide.{ℕ_discrete, dec_le, dec_lt}
use lib.ListN.{length}
use Rattle.dataflow.specs.Net.{Net, Sound}
use Rattle.dataflow.specs.Runs.{State, whenever, initially, fire, after, Run, ended, fires}
use Rattle.dataflow.proofs.ListFrom.{length_from}
use Rattle.dataflow.proofs.RunLaws.{HoldsAt, holds_initially, holds_fire, holds, holds_length}
use Rattle.dataflow.proofs.TakenLaws.{after_append, run_append, ready_counts, counts_ready}
use Rattle.dataflow.proofs.RepeatLaws.{same_fill_run, same_fired}
use Rattle.search.specs.Cut.{where_between, between, none_fired}

-- F, but at least low and at most high
pub record Clamped (low high F x : ℕ) : Type 0 where
  pub least : low ≤ x
  pub most : x ≤ high
  pub up : F ≤ low → x ≡ low
  pub same : low ≤ F → F ≤ high → x ≡ F
  pub down : high ≤ F → x ≡ high

module _ (G : Net) (low high : ℕ → ℕ) (D E : G.Queue → ℕ) where
  -- the firings from low on and before high can be fired alone, from the delays that the firings before low leave
  module _ (cut : (e : G.Queue) → E e + low (G.sink e) * G.consumed e ≡ D e + low (G.source e) * G.produced e)
      (closed : (e : G.Queue) → high (G.sink e) * G.consumed e ≤ D e + high (G.source e) * G.produced e)
      (ordered : (v : ℕ) → low v ≤ high v) where
    abbrev Counts : State G → State G → Type 0
    Counts S S' = (w : ℕ) → Clamped (low w) (high w) (S.fired w) (S'.fired w + low w)

    fed : (S S' : State G) → Counts S S' → (v : ℕ) → low v ≤ S.fired v → S.fired v < high v
        → ((e : G.Queue) → G.sink e ≡ v → suc (S.fired v) * G.consumed e ≤ D e + S.fired (G.source e) * G.produced e)
        → (e : G.Queue) → G.sink e ≡ v → suc (S'.fired v) * G.consumed e ≤ E e + S'.fired (G.source e) * G.produced e
    fed S S' k v a b r e to =
        let c = G.consumed e in
        let p = G.produced e in
        let u = G.source e in
        let top : suc (S.fired v) * c ≤ high v * c = mul-le-mul_right c b in
        let here : S'.fired v + low v ≡ S.fired v = (k v).same a (omega arith) in
        let here' = ap (λ (x : ℕ). x * c) here in
        let at_v = ap (λ (w : ℕ). low w * c) to in
        let high_v = ap (λ (w : ℕ). high w * c) to in
        elim (dec_le (S.fired u) (high u)) [
          | yes l ↦
              let few : S.fired u ≤ S'.fired u + low u = elim (dec_le (low u) (S.fired u)) [ yes x ↦ omega (arith, (k u).same x l) | no x ↦ omega (arith, (k u).least) ] in
              omega (arith, mul-le-mul_right p few, r e to, cut e)
          | no l ↦
              let few : S'.fired u + low u ≡ high u = (k u).down (omega arith) in
              omega (arith, ap (λ (x : ℕ). x * p) few, closed e, cut e)
        ]

    record Alone (S S' : State G) (l m : List ℕ) : Type 0 where
      run : Run G S' m
      ends : Counts (after G S l) (after G S' m)

    stays : (S S' : State G) (v : ℕ) → Counts S S' → (low v ≤ S.fired v → S.fired v < high v → ⊥) → Counts (fire G v S) S'
    stays S S' v k out w = go (ℕ_discrete w v) (k w) (λ e a b. out (rw e at a) (rw e at b))
      where
        go : (x : Dec (w ≡ v)) → Clamped (low w) (high w) (S.fired w) (S'.fired w + low w) → (w ≡ v → low w ≤ S.fired w → S.fired w < high w → ⊥) → Clamped (low w) (high w) (S.fired w + whenever x 1) (S'.fired w + low w)
        go (no x) h o = rw add-zero h
        go (yes x) h o = elim (dec_le (low w) (S.fired w)) [
          | no a ↦ record { least = h.least; most = h.most; up = λ b. h.up (omega arith); same = λ b c. omega (arith, h.up (omega arith)); down = λ b. omega (arith, h.up (omega arith), h.least, h.most) }
          | yes a ↦
              let b : high w ≤ S.fired w = elim (dec_lt (S.fired w) (high w)) [ yes c ↦ absurd (o x a c) | no c ↦ omega arith ] in
              let e = h.down b in
              record { least = h.least; most = h.most; up = λ c. omega (arith, h.least); same = λ c d. omega arith; down = λ c. e }
        ]

    moves : (S S' : State G) (v : ℕ) → Counts S S' → low v ≤ S.fired v → S.fired v < high v → Counts (fire G v S) (fire G v S')
    moves S S' v k a b w = go (ℕ_discrete w v) (k w) (λ e. rw e a) (λ e. rw e b)
      where
        go : (x : Dec (w ≡ v)) → Clamped (low w) (high w) (S.fired w) (S'.fired w + low w) → (w ≡ v → low w ≤ S.fired w) → (w ≡ v → S.fired w < high w)
            → Clamped (low w) (high w) (S.fired w + whenever x 1) (S'.fired w + whenever x 1 + low w)
        go (no x) h a b = rw (add-zero (S.fired w), add-zero (S'.fired w)) h
        go (yes x) h a b =
            let e = h.same (a x) (omega (arith, b x)) in
            let a' = a x in
            let b' = b x in
            record { least = omega arith; most = omega arith; up = λ c. absurd (omega arith); same = λ c d. omega arith; down = λ c. omega arith }

    alone : {S : State G} {l : List ℕ} (S' : State G) → Run G S l → ((e : G.Queue) → HoldsAt G D S e) → ((e : G.Queue) → HoldsAt G E S' e) → Counts S S' → Alone S S' l (between low high S.fired l)
    unfolding between
    alone S' ended hs hs' k = record { run = ended; ends = k }
    alone {S} S' (fires {v = v} {l = l} s r run) hs hs' k =
        go (dec_le (low v) (S.fired v)) (dec_lt (S.fired v) (high v)) (λ S'' h c. alone S'' run (λ e. holds_fire G D S v r e (hs e)) h c)
      where
        go : (a : Dec (low v ≤ S.fired v)) (b : Dec (S.fired v < high v))
            → ((S'' : State G) → ((e : G.Queue) → HoldsAt G E S'' e) → Counts (fire G v S) S'' → Alone (fire G v S) S'' l (between low high (fire G v S).fired l))
            → Alone S S' (v ∷ l) (where_between a b v (between low high (fire G v S).fired l))
        go (no a) b ih = let x = ih S' hs' (stays S S' v k (λ c d. a c)) in record { run = x.run; ends = x.ends }
        go (yes a) (no b) ih = let x = ih S' hs' (stays S S' v k (λ c d. b d)) in record { run = x.run; ends = x.ends }
        go (yes a) (yes b) ih =
            let ready = counts_ready G E S' hs' v (fed S S' k v a b (ready_counts G D S hs v r)) in
            let x = ih (fire G v S') (λ e. holds_fire G E S' v ready e (hs' e)) (moves S S' v k a b) in
            record { run = fires s ready x.run; ends = x.ends }

module _ (G : Net) (W : Sound G) (keep : ℕ → ℕ) (fewer : (v : ℕ) → keep v ≤ G.q v) (D E : G.Queue → ℕ)
    (cut : (e : G.Queue) → E e + keep (G.sink e) * G.consumed e ≡ D e + keep (G.source e) * G.produced e)
    (l : List ℕ) (run : Run G (initially G D) l) (whole : (v : ℕ) → v < G.stations → (after G (initially G D) l).fired v ≡ G.q v) where
  abbrev second : List ℕ
  second = between keep G.q none_fired l

  abbrev first : List ℕ
  first = between none_fired keep none_fired l

  second_alone : Alone G keep G.q D E cut (λ e. omega (arith, W.counts.balanced e)) fewer (initially G D) (initially G E) l second
  second_alone =
      alone G keep G.q D E cut (λ e. omega (arith, W.counts.balanced e)) fewer (initially G E) run (holds_initially G D) (holds_initially G E)
      (λ w. record { least = omega arith; most = omega (arith, fewer w); up = λ a. omega arith; same = λ a b. omega arith; down = λ a. omega (arith, fewer w) })

  first_alone : Alone G none_fired keep D D (λ e. omega arith) (λ e. omega (arith, cut e)) (λ v. omega arith) (initially G D) (initially G D) l first
  first_alone =
      alone G none_fired keep D D (λ e. omega arith) (λ e. omega (arith, cut e)) (λ v. omega arith) (initially G D) run (holds_initially G D) (holds_initially G D)
      (λ w. record { least = omega arith; most = omega arith; up = λ a. omega arith; same = λ a b. omega arith; down = λ a. omega arith })

  second_fired : (v : ℕ) → v < G.stations → (after G (initially G E) second).fired v + keep v ≡ G.q v
  second_fired v h = (second_alone.ends v).down (omega (arith, whole v h))

  first_fired : (v : ℕ) → v < G.stations → (after G (initially G D) first).fired v ≡ keep v
  first_fired v h = omega (arith, (first_alone.ends v).down (omega (arith, whole v h, fewer v)))

  -- the second part leaves the delays from which the round was fired
  second_leaves : (e : G.Queue) → D e ≡ length ((after G (initially G E) second).holds e)
  second_leaves e =
      let c = G.consumed e in
      let p = G.produced e in
      let n = holds_length (E e) p c _ _ _ (holds G E second_alone.run e) in
      omega (arith, n, cut e, W.counts.balanced e, ap (λ (x : ℕ). x * c) (second_fired (G.sink e) (W.enters e)), ap (λ (x : ℕ). x * p) (second_fired (G.source e) (W.leaves e)))

  -- so the second part can be fired before the first, from the delays that the first leaves
  pub turned_run : Run G (initially G E) (second ++ first)
  turned_run =
      run_append G second_alone.run
      (same_fill_run G (after G (initially G E) second) first_alone.run (λ e. length_from _ 0 (D e) ∙ second_leaves e))

  -- and together they are a round
  pub turned_whole : (v : ℕ) → v < G.stations → (after G (initially G E) (second ++ first)).fired v ≡ G.q v
  turned_whole v h =
      rw (after_append G (initially G E) second first)
      (omega (arith, same_fired G (after G (initially G E) second) (initially G D) first v, second_fired v h, first_fired v h))
