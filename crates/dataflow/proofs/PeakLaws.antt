-- The peak of a queue's fill over a list of firings: it exists, there is no second, and it goes stretch by stretch of firings of one station.
use mathlib.Core.Path.{◌≡◌, refl, ap, ◌∙◌}
use mathlib.Core.List.{List, [], ◌∷◌, ◌++◌}
use mathlib.Core.Logic.{⊎_elim}
use Prim.Native.Nat.{ℕ, zero, suc, ◌+◌, ◌-◌, ◌≤◌, max}
use native.Mathlib.Omega.{arith}
use native.Mathlib.Decide.{ℕ_discrete, dec_le}
use lib.ListN.{length, take, replicate}
use Rattle.lists.proofs.Order.{lt_or_ge}
use Rattle.dataflow.specs.Net.{Net}
use Rattle.dataflow.specs.Runs.{State, whenever, fire, after, takes_from, puts_on}
use Rattle.dataflow.specs.Peak.{fill, Peak}
use Rattle.dataflow.proofs.TakenLaws.{after_append}
use Rattle.dataflow.proofs.RepeatLaws.{fill_after}

module _ (G : Net) where
  -- the peak, computed from the front by the number of tokens alone
  abbrev pub peak_from : (tokens : ℕ) (l : List ℕ) (e : G.Queue) → ℕ
  peak_from tokens [] e = tokens
  peak_from tokens (v ∷ l) e = max tokens (peak_from (tokens - takes_from G v e + puts_on G v e) l e)

  abbrev pub peak_of : State G → List ℕ → G.Queue → ℕ
  peak_of S l e = peak_from (fill G S e) l e

  -- It exists ..
  pub peak_is : (S : State G) (l : List ℕ) (e : G.Queue) → Peak G S l e (peak_of S l e)
  peak_is S [] e = record { covers = covers; firings = 0; within = omega arith; reached = refl }
    where
      covers : (n : ℕ) → n ≤ 0 → fill G (after G S (take n [])) e ≤ fill G S e
      covers zero h = omega arith
      covers (suc n) h = absurd (omega arith)
  peak_is S (v ∷ l) e = rw (← fill_after G S v e) (go (peak_is (fire G v S) l e) (dec_le (fill G S e) (peak_of (fire G v S) l e)))
    where
      covers : Peak G (fire G v S) l e (peak_of (fire G v S) l e) → (n : ℕ) → n ≤ length (v ∷ l) → fill G (after G S (take n (v ∷ l))) e ≤ max (fill G S e) (peak_of (fire G v S) l e)
      covers p zero h = omega arith
      covers p (suc n) h = omega (arith, p.covers n (omega arith))

      go : Peak G (fire G v S) l e (peak_of (fire G v S) l e) → Dec (fill G S e ≤ peak_of (fire G v S) l e) → Peak G S (v ∷ l) e (max (fill G S e) (peak_of (fire G v S) l e))
      go p (yes h) = record { covers = covers p; firings = suc p.firings; within = omega (arith, p.within); reached = omega (arith, p.reached) }
      go p (no h) = record { covers = covers p; firings = 0; within = omega arith; reached = omega arith }

  -- .. and there is no second.
  pub peak_once : {S : State G} {l : List ℕ} {e : G.Queue} {x y : ℕ} → Peak G S l e x → Peak G S l e y → x ≡ y
  peak_once p k = omega (arith, p.covers k.firings k.within, p.reached, k.covers p.firings p.within, k.reached)

  pub peak_computed : {S : State G} {l : List ℕ} {e : G.Queue} {x : ℕ} → Peak G S l e x → x ≡ peak_of S l e
  peak_computed {S} {l} {e} p = peak_once p (peak_is S l e)

  pub computed_peak : {S : State G} {l : List ℕ} {e : G.Queue} {x : ℕ} → x ≡ peak_of S l e → Peak G S l e x
  computed_peak {S} {l} {e} h = rw h (peak_is S l e)

  -- The peak covers the fill at the start ..
  pub peak_first : (tokens : ℕ) (l : List ℕ) (e : G.Queue) → tokens ≤ peak_from tokens l e
  peak_first tokens [] e = omega arith
  peak_first tokens (v ∷ l) e = omega arith

  -- .. and the fill after the last firing.
  pub peak_last : (S : State G) (l : List ℕ) (e : G.Queue) → fill G (after G S l) e ≤ peak_of S l e
  peak_last S [] e = omega arith
  peak_last S (v ∷ l) e = rw (← fill_after G S v e) (omega (arith, peak_last (fire G v S) l e))

  -- One list after the other: the larger of the two peaks.
  pub computed_append : (S : State G) (l m : List ℕ) (e : G.Queue) → peak_of S (l ++ m) e ≡ max (peak_of S l e) (peak_of (after G S l) m e)
  computed_append S [] m e = omega (arith, peak_first (fill G S e) m e)
  computed_append S (v ∷ l) m e = rw (← fill_after G S v e) (omega (arith, computed_append (fire G v S) l m e))

  pub peak_append : {S : State G} {l m : List ℕ} {e : G.Queue} {x y : ℕ} → Peak G S l e x → Peak G (after G S l) m e y → Peak G S (l ++ m) e (max x y)
  peak_append {S} {l} {m} {e} p k = computed_peak (omega (arith, computed_append S l m e, peak_computed p, peak_computed k))

  -- Before the first firing the peak is the fill.
  pub peak_none : (S : State G) (e : G.Queue) → Peak G S [] e (fill G S e)
  peak_none S e = peak_is S [] e

  -- the fill after a list, computed from the front
  abbrev fill_from : (tokens : ℕ) (l : List ℕ) (e : G.Queue) → ℕ
  fill_from tokens [] e = tokens
  fill_from tokens (v ∷ l) e = fill_from (tokens - takes_from G v e + puts_on G v e) l e

  fill_from_lem : (S : State G) (l : List ℕ) (e : G.Queue) → fill G (after G S l) e ≡ fill_from (fill G S e) l e
  fill_from_lem S [] e = refl
  fill_from_lem S (v ∷ l) e = rw (← fill_after G S v e) (fill_from_lem (fire G v S) l e)

  -- a stretch of k firings of one station
  module _ (v : ℕ) (e : G.Queue) where
    -- where they put as much as they take, the fill doesn't fall; it falls to no less than what one puts; and where they put nothing, it doesn't rise
    stretch_rises : (k tokens : ℕ) → takes_from G v e ≤ puts_on G v e → tokens ≤ fill_from tokens (replicate k v) e
    stretch_rises zero tokens h = omega arith
    stretch_rises (suc k) tokens h = omega (arith, stretch_rises k (tokens - takes_from G v e + puts_on G v e) h)

    stretch_puts : (k tokens : ℕ) → puts_on G v e ≤ tokens → puts_on G v e ≤ fill_from tokens (replicate k v) e
    stretch_puts zero tokens h = h
    stretch_puts (suc k) tokens h = stretch_puts k (tokens - takes_from G v e + puts_on G v e) (omega arith)

    stretch_falls : (k tokens : ℕ) → puts_on G v e ≡ 0 → fill_from tokens (replicate k v) e ≤ tokens
    stretch_falls zero tokens h = omega arith
    stretch_falls (suc k) tokens h = omega (arith, stretch_falls k (tokens - takes_from G v e + puts_on G v e) h)

    -- so the queue is fullest at one end of the stretch
    stretch_peak : (k tokens : ℕ) → peak_from tokens (replicate k v) e ≡ max tokens (fill_from tokens (replicate k v) e)
    stretch_peak zero tokens = omega arith
    stretch_peak (suc k) tokens =
        let t = takes_from G v e in
        let p = puts_on G v e in
        let next = tokens - takes_from G v e + puts_on G v e in
        ⊎_elim
        (λ lt. omega (arith, stretch_peak k next, stretch_puts k next (omega arith)))
        (λ ge. omega (arith, stretch_peak k next, stretch_rises k next ge))
        (lt_or_ge p t)

  module _ {S : State G} {l : List ℕ} (v k : ℕ) {e : G.Queue} {x : ℕ} (peak : Peak G S l e x) where
    behind_stretch : fill G (after G S (l ++ replicate k v)) e ≡ fill_from (fill G (after G S l) e) (replicate k v) e
    behind_stretch = ap (λ (s : State G). fill G s e) (after_append G S l (replicate k v)) ∙ fill_from_lem (after G S l) (replicate k v) e

    -- A stretch of k firings of one station: the larger of the peak so far and the fill behind it.
    pub peak_stretch : Peak G S (l ++ replicate k v) e (max x (fill G (after G S (l ++ replicate k v)) e))
    peak_stretch = computed_peak (omega (arith, computed_append S l (replicate k v) e, peak_computed peak, stretch_peak v e k (fill G (after G S l) e), behind_stretch, peak_last S l e))

    -- A station that doesn't feed the queue leaves the peak as it was.
    pub peak_kept : ¬ (G.source e ≡ v) → Peak G S (l ++ replicate k v) e x
    peak_kept other =
        let same : max x (fill G (after G S (l ++ replicate k v)) e) ≡ x = omega (arith, behind_stretch, stretch_falls v e k (fill G (after G S l) e) puts_none, peak_computed peak, peak_last S l e) in
        rw same at peak_stretch
      where
        puts_none : puts_on G v e ≡ 0
        puts_none = go (ℕ_discrete (G.source e) v)
          where
            go : (w : Dec (G.source e ≡ v)) → whenever w (G.produced e) ≡ 0
            go (yes w) = absurd (other w)
            go (no w) = refl
