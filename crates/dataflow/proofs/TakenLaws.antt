-- What a firing takes: the same tokens in every run.
use mathlib.Core.Path.{◌≡◌, refl, sym, ap, ◌∙◌}
use mathlib.Core.List.{List, [], ◌∷◌, ◌++◌}
use Prim.Native.Nat.{ℕ, suc, ◌+◌, ◌-◌, ◌*◌, ◌≤◌, ◌<◌}
use native.Mathlib.Omega.{arith}
use native.Mathlib.Decide.{ℕ_discrete, dec_lt}
use lib.ListN.{get_or}
use Rattle.dataflow.specs.Net.{Net, Sound}
use Rattle.dataflow.specs.Runs.{Token, initial, list_from, whenever, State, initially, fire, after, Ready, Run, ended, fires, TakenBy}
use Rattle.dataflow.specs.Origin.{Origin, place_taken, token_at}
use Rattle.dataflow.specs.Promise.{OriginPromise}
use Rattle.dataflow.proofs.ListFrom.{from_at}
use Rattle.dataflow.proofs.OriginLaws.{origin_is, origin_once}
use Rattle.dataflow.proofs.RunLaws.{holds_take, holds, HoldsAt, holds_length}

module _ (G : Net) where
  pub after_append : (S : State G) (l m : List ℕ) → after G S (l ++ m) ≡ after G (after G S l) m
  after_append S [] m = refl
  after_append S (v ∷ l) m = after_append (fire G v S) l m

  -- firings only add to the numbers of firings done
  pub after_rises : (S : State G) (l : List ℕ) (u : ℕ) → S.fired u ≤ (after G S l).fired u
  after_rises S [] u = omega arith
  after_rises S (v ∷ l) u = omega (arith, after_rises (fire G v S) l u)

  pub run_append : {S : State G} {l m : List ℕ} → Run G S l → Run G (after G S l) m → Run G S (l ++ m)
  run_append ended k = k
  run_append (fires s r run) k = fires s r (run_append run k)

  pub run_front : (S : State G) (l m : List ℕ) → Run G S (l ++ m) → Run G S l
  run_front S [] m run = ended
  run_front S (v ∷ l) m (fires s r run) = fires s r (run_front (fire G v S) l m run)

  pub run_rest : (S : State G) (l m : List ℕ) → Run G S (l ++ m) → Run G (after G S l) m
  run_rest S [] m run = run
  run_rest S (v ∷ l) m (fires s r run) = run_rest (fire G v S) l m run

  pub run_station : {S : State G} {v : ℕ} {l : List ℕ} → Run G S (v ∷ l) → v < G.stations
  run_station (fires s r run) = s

  pub run_ready : {S : State G} {v : ℕ} {l : List ℕ} → Run G S (v ∷ l) → Ready G S v
  run_ready (fires s r run) = r

module _ (G : Net) where
  -- where in a list the firing stands that makes n of v
  record Stands (S : State G) (l : List ℕ) (v n : ℕ) : Type 0 where
    before : List ℕ
    behind : List ℕ
    order : l ≡ before ++ v ∷ behind
    number : n ≡ suc ((after G S before).fired v)

  stands : (S : State G) (l : List ℕ) (v n : ℕ) → S.fired v < n → n ≤ (after G S l).fired v → Stands S l v n
  stands S [] v n lo hi = absurd (omega arith)
  stands S (w ∷ l) v n lo hi = go (ℕ_discrete v w) (λ k. stands (fire G w S) l v n k hi)
    where
      later : Stands (fire G w S) l v n → Stands S (w ∷ l) v n
      later s = record { before = w ∷ s.before; behind = s.behind; order = ap (λ (x : List ℕ). w ∷ x) s.order; number = s.number }

      go : (x : Dec (v ≡ w)) → (S.fired v + whenever x 1 < n → Stands (fire G w S) l v n) → Stands S (w ∷ l) v n
      go (yes e) ih = elim (dec_lt (S.fired v + 1) n) [ yes k ↦ later (ih k) | no k ↦ record { before = []; behind = l; order = rw e; number = omega arith } ]
      go (no x) ih = later (ih (omega arith))

module _ (G : Net) (d : G.Queue → ℕ) where
  -- Each firing that a list has takes some tokens.
  pub taken_exists : (l : List ℕ) (e : G.Queue) (n : ℕ) → 1 ≤ n → n ≤ (after G (initially G d) l).fired (G.sink e) → (t : List Token) × TakenBy G d l e n t
  taken_exists l e n lo hi =
      let s = stands G (initially G d) l (G.sink e) n lo hi in
      (_, record { earlier = s.before; later = s.behind; order = s.order; number = s.number; are = refl })

  -- Ready, by the numbers of firings done: (fired(v) + 1) × consumed ≤ delay + fired(source) × produced on each queue into v.
  pub ready_counts : (S : State G) → ((e : G.Queue) → HoldsAt G d S e) → (v : ℕ) → Ready G S v
      → (e : G.Queue) → G.sink e ≡ v → suc (S.fired v) * G.consumed e ≤ d e + S.fired (G.source e) * G.produced e
  ready_counts S h v r e to =
      omega (arith, r e to, holds_length (d e) (G.produced e) (G.consumed e) _ _ (S.holds e) (h e), ap (λ (w : ℕ). S.fired w * G.consumed e) to)

  pub counts_ready : (S : State G) → ((e : G.Queue) → HoldsAt G d S e) → (v : ℕ)
      → ((e : G.Queue) → G.sink e ≡ v → suc (S.fired v) * G.consumed e ≤ d e + S.fired (G.source e) * G.produced e) → Ready G S v
  counts_ready S h v r e to =
      omega (arith, r e to, holds_length (d e) (G.produced e) (G.consumed e) _ _ (S.holds e) (h e), ap (λ (w : ℕ). S.fired w * G.consumed e) to)

  -- Firing n of the sink takes the tokens of places (n - 1) × consumed up to n × consumed - 1, in order.
  pub taken_is : (l : List ℕ) → Run G (initially G d) l → (e : G.Queue) (n : ℕ) (t : List Token) → TakenBy G d l e n t
      → t ≡ list_from (token_at (d e) (G.produced e)) ((n - 1) * G.consumed e) (G.consumed e)
  taken_is l run e n t k =
      let run' : Run G (initially G d) (k.earlier ++ G.sink e ∷ k.later) = rw k.order at run in
      let h = holds G d (run_front G (initially G d) k.earlier _ run') e in
      let r = run_ready G (run_rest G (initially G d) k.earlier _ run') e refl in
      let m : n - 1 ≡ (after G (initially G d) k.earlier).fired (G.sink e) = omega (arith, k.number) in
      rw m (k.are ∙ (holds_take (d e) (G.produced e) (G.consumed e) _ _ _ r h).0)

  -- So the n-th firing of a station takes the same tokens in every run.
  pub same_in_every_run : (l l' : List ℕ) → Run G (initially G d) l → Run G (initially G d) l' → (e : G.Queue) (n : ℕ) (t t' : List Token)
      → TakenBy G d l e n t → TakenBy G d l' e n t' → t ≡ t'
  same_in_every_run l l' run run' e n t t' k k' = taken_is l run e n t k ∙ sym (taken_is l' run' e n t' k')

  -- The origin of a token, by places, is the token that the firing takes.
  pub origin_promise : (e : G.Queue) (g k : ℕ) (t : Token) → 1 ≤ k → k ≤ G.consumed e → Origin (d e) (G.produced e) (place_taken (G.consumed e) g k) t → OriginPromise G d e g k t
  origin_promise e g k t lo hi o = record {
    origin = o;
    in_every_run = λ l run ts b.
        ap (λ (x : List Token). get_or x (k - 1) (initial 0)) (taken_is l run e g ts b)
        ∙ from_at (token_at (d e) (G.produced e)) ((g - 1) * G.consumed e) (G.consumed e) (k - 1) (initial 0) (omega arith) ∙ sym (origin_once (d e) (G.produced e) _ t o);
  }

  -- It exists, and there is no second.
  pub origin_exists : (W : Sound G) (e : G.Queue) (g k : ℕ) → 1 ≤ k → k ≤ G.consumed e → (t : Token) × OriginPromise G d e g k t
  origin_exists W e g k lo hi = (_, origin_promise e g k _ lo hi (origin_is (d e) (G.produced e) (place_taken (G.consumed e) g k) (W.makes e)))

  pub origin_unique : (e : G.Queue) (g k : ℕ) (t t' : Token) → OriginPromise G d e g k t → OriginPromise G d e g k t' → t ≡ t'
  origin_unique e g k t t' o o' = origin_once (d e) (G.produced e) _ t o.origin ∙ sym (origin_once (d e) (G.produced e) _ t' o'.origin)
