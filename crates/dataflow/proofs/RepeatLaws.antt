-- The start list leaves the new delays; the round list leaves them again, any number of times.
use mathlib.Core.Path.{◌≡◌, sym, ap, ap₂, ◌∙◌}
use mathlib.Core.List.{List, [], ◌∷◌}
use Prim.Native.Nat.{ℕ, zero, suc, ◌+◌, ◌-◌, ◌*◌, ◌<◌}
use native.Mathlib.Nat.{sub-add_cancel}
use native.Mathlib.Omega.{arith}
use lib.ListN.{length, drop, length-append, length-drop}
use Rattle.dataflow.specs.Net.{Net, Sound}
use Rattle.dataflow.specs.Runs.{State, initially, fire, after, takes_from, puts_on, Run, ended, fires}
use Rattle.dataflow.specs.Lists.{Covers, StartList, RoundList, repeated}
use Rattle.dataflow.proofs.ListFrom.{length_from}
use Rattle.dataflow.proofs.WholeLaws.{Retimed}
use Rattle.dataflow.proofs.RunLaws.{holds, holds_length}
use Rattle.dataflow.proofs.TakenLaws.{after_append, run_append}
use Rattle.dataflow.proofs.ListLaws.{list_run, list_fired}

module _ (G : Net) where
  -- Whether a list can be fired hangs on how many tokens there are, and on nothing else.
  abbrev pub SameFill : (S S' : State G) → Type 0
  SameFill S S' = (e : G.Queue) → length (S.holds e) ≡ length (S'.holds e)

  -- a firing takes, then puts
  pub fill_after : (S : State G) (v : ℕ) (e : G.Queue) → length ((fire G v S).holds e) ≡ length (S.holds e) - takes_from G v e + puts_on G v e
  fill_after S v e = length-append (drop (takes_from G v e) (S.holds e)) _ ∙ ap₂ (λ (x y : ℕ). x + y) (length-drop (takes_from G v e) (S.holds e)) (length_from _ 1 (puts_on G v e))

  pub same_fill_fire : (S S' : State G) (v : ℕ) → SameFill S S' → SameFill (fire G v S) (fire G v S')
  same_fill_fire S S' v h e = fill_after S v e ∙ ap (λ (x : ℕ). x - takes_from G v e + puts_on G v e) (h e) ∙ sym (fill_after S' v e)

  pub same_fill_run : {S : State G} {l : List ℕ} (S' : State G) → Run G S l → SameFill S S' → Run G S' l
  same_fill_run S' ended h = ended
  same_fill_run {S} S' (fires {v = v} s r run) h = fires {S = S'} s (λ e to. rw (← h e) (r e to)) (same_fill_run (fire G v S') run (same_fill_fire S S' v h))

  pub same_fill_after : (S S' : State G) (l : List ℕ) → SameFill S S' → SameFill (after G S l) (after G S' l)
  same_fill_after S S' [] h = h
  same_fill_after S S' (v ∷ l) h = same_fill_after (fire G v S) (fire G v S') l (same_fill_fire S S' v h)

  -- a list fires each station as often from any state
  pub same_fired : (S S' : State G) (l : List ℕ) (v : ℕ) → (after G S l).fired v + S'.fired v ≡ (after G S' l).fired v + S.fired v
  same_fired S S' [] v = omega arith
  same_fired S S' (w ∷ l) v = omega (arith, same_fired (fire G w S) (fire G w S') l v)

module _ (G : Net) (W : Sound G) where
  -- the start list leaves exactly the new delays
  pub start_leaves : (d D : G.Queue → ℕ) (r : ℕ → ℕ) (c : ℕ) → Retimed G d r D → Covers G r c
      → (e : G.Queue) → D e + (c * G.q (G.sink e) - r (G.sink e)) * G.consumed e ≡ d e + (c * G.q (G.source e) - r (G.source e)) * G.produced e
  start_leaves d D r c h covers e =
      let a = ap (λ (x : ℕ). x * G.consumed e) (sub-add_cancel (covers (G.sink e) (W.enters e))) in
      let b = ap (λ (x : ℕ). x * G.produced e) (sub-add_cancel (covers (G.source e) (W.leaves e))) in
      omega (arith, h e, ap (λ (x : ℕ). c * x) (W.counts.balanced e))

  pub after_start : (d D : G.Queue → ℕ) (r : ℕ → ℕ) (c : ℕ) (l : List ℕ) → Retimed G d r D → Covers G r c → StartList G d r c l
      → (e : G.Queue) → length ((after G (initially G d) l).holds e) ≡ D e
  after_start d D r c l h covers s e =
      let wanted : ℕ → ℕ = λ v. c * G.q v - r v in
      let n = holds_length (d e) (G.produced e) (G.consumed e) _ _ _ (holds G d (list_run G wanted s) e) in
      omega (
        arith,
        n,
        start_leaves d D r c h covers e,
        ap (λ (x : ℕ). x * G.consumed e) (list_fired G wanted s (G.sink e) (W.enters e)),
        ap (λ (x : ℕ). x * G.produced e) (list_fired G wanted s (G.source e) (W.leaves e)),
      )

  module _ (D : G.Queue → ℕ) (l : List ℕ) (round : RoundList G D l) where
    -- a round of the new delays leaves them as they were
    after_round_lem : (e : G.Queue) → length ((after G (initially G D) l).holds e) ≡ D e
    after_round_lem e =
        let n = holds_length (D e) (G.produced e) (G.consumed e) _ _ _ (holds G D (list_run G G.q round) e) in
        omega (
          arith,
          n,
          W.counts.balanced e,
          ap (λ (x : ℕ). x * G.consumed e) (list_fired G G.q round (G.sink e) (W.enters e)),
          ap (λ (x : ℕ). x * G.produced e) (list_fired G G.q round (G.source e) (W.leaves e)),
        )

    module _ (S : State G) (fill : (e : G.Queue) → length (S.holds e) ≡ D e) where
      same : SameFill G (initially G D) S
      same e = length_from _ 0 (D e) ∙ sym (fill e)

      pub round_runs : Run G S l
      round_runs = same_fill_run G S (list_run G G.q round) same

      pub round_leaves : (e : G.Queue) → length ((after G S l).holds e) ≡ D e
      round_leaves e = sym (same_fill_after G (initially G D) S l same e) ∙ after_round_lem e

      pub round_fires : (v : ℕ) → v < G.stations → (after G S l).fired v ≡ S.fired v + G.q v
      round_fires v h = omega (arith, same_fired G S (initially G D) l v, list_fired G G.q round v h)

    pub rounds_run : (k : ℕ) (S : State G) → ((e : G.Queue) → length (S.holds e) ≡ D e) → Run G S (repeated k l)
    rounds_run zero S fill = ended
    rounds_run (suc k) S fill = run_append G (round_runs S fill) (rounds_run k (after G S l) (round_leaves S fill))

    pub rounds_leave : (k : ℕ) (S : State G) → ((e : G.Queue) → length (S.holds e) ≡ D e) → (e : G.Queue) → length ((after G S (repeated k l)).holds e) ≡ D e
    rounds_leave zero S fill e = fill e
    rounds_leave (suc k) S fill e = rw after_append (rounds_leave k (after G S l) (round_leaves S fill) e)

    pub rounds_fire : (k : ℕ) (S : State G) → ((e : G.Queue) → length (S.holds e) ≡ D e) → (v : ℕ) → v < G.stations → (after G S (repeated k l)).fired v ≡ S.fired v + k * G.q v
    rounds_fire zero S fill v h = omega arith
    rounds_fire (suc k) S fill v h = rw after_append (omega (arith, rounds_fire k (after G S l) (round_leaves S fill) v h, round_fires S fill v h))
