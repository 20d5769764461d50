-- A firing list in the making: by the numbers of firings done it goes on, is complete, or stalls.
use mathlib.Core.Path.{◌≡◌, refl, sym, ap, subst, ◌∙◌}
use mathlib.Core.List.{List, [], ◌∷◌, ◌++◌, append_assoc, append-nil}
use mathlib.Core.Logic.{inl, inr}
use Prim.Native.Nat.{ℕ, zero, suc, ◌+◌, ◌≤◌, ◌<◌}
use native.Mathlib.Omega.{arith}
use native.Mathlib.Decide.{ℕ_discrete, dec_lt}
use lib.ListN.{length, take, get_or, set, replicate, length-append, get_or-append}
use lib.Seq.{take-append-le, take-append_seam, get_or-append_seam, take-suc, get_or-set_same, get_or-set_other}
use Rattle.lists.specs.Front.{at}
use Rattle.lists.proofs.Order.{order}
use Rattle.dataflow.specs.Net.{Net, Sound}
use Rattle.dataflow.specs.Counts.{sum}
use Rattle.dataflow.specs.Runs.{State, whenever, initially, fire, after, Run, ended, fires}
use Rattle.dataflow.specs.Lists.{Next, FiringList, complete, next, FedBy, fired_by, Prefix, none, more}
use Rattle.dataflow.proofs.SumLaws.{sum_none, sum_same, sum_less, sum_tight}
use Rattle.dataflow.proofs.ListLaws.{sum_one, list_length}
use Rattle.dataflow.proofs.RunLaws.{HoldsAt, holds}
use Rattle.dataflow.proofs.TakenLaws.{after_append, run_append, ready_counts, counts_ready}
use Rattle.dataflow.proofs.Decide.{ready_or_lacking}
use Rattle.dataflow.proofs.StallLaws.{Short}
use Rattle.dataflow.proofs.CompleteLaws.{Stalled, short_of}

module _ (G : Net) (D : G.Queue → ℕ) where
  pub fired_more : (l : List ℕ) (v w : ℕ) → fired_by G D (l ++ (v ∷ [])) w ≡ fired_by G D l w + whenever (ℕ_discrete w v) 1
  fired_more l v w = ap (λ (S : State G). S.fired w) (after_append G (initially G D) l (v ∷ []))

  -- and a stretch of k firings of one station
  fired_stretch : (S : State G) (k v w : ℕ) → (after G S (replicate k v)).fired w ≡ S.fired w + whenever (ℕ_discrete w v) k
  fired_stretch S zero v w = go (ℕ_discrete w v)
    where
      go : (x : Dec (w ≡ v)) → S.fired w ≡ S.fired w + whenever x 0
      go (yes x) = omega arith
      go (no x) = omega arith
  fired_stretch S (suc k) v w = go (ℕ_discrete w v) (fired_stretch (fire G v S) k v w)
    where
      go : (x : Dec (w ≡ v)) → (after G S (replicate (suc k) v)).fired w ≡ S.fired w + whenever x 1 + whenever x k → (after G S (replicate (suc k) v)).fired w ≡ S.fired w + whenever x (suc k)
      go (yes x) h = omega arith
      go (no x) h = omega arith

  pub fired_again : (l : List ℕ) (k v w : ℕ) → fired_by G D (l ++ replicate k v) w ≡ fired_by G D l w + whenever (ℕ_discrete w v) k
  fired_again l k v w = ap (λ (S : State G). S.fired w) (after_append G (initially G D) l (replicate k v)) ∙ fired_stretch (after G (initially G D) l) k v w

  -- the same, where the numbers of firings are kept in a list
  pub fired_stored : (l fired : List ℕ) (v k : ℕ) → v < length fired → ((w : ℕ) → at fired w ≡ fired_by G D l w) → (w : ℕ) → at (set fired v (at fired v + k)) w ≡ fired_by G D (l ++ replicate k v) w
  fired_stored l fired v k h is w = go (ℕ_discrete w v) ∙ sym (fired_again l k v w)
    where
      go : (x : Dec (w ≡ v)) → at (set fired v (at fired v + k)) w ≡ fired_by G D l w + whenever x k
      go (yes x) = rw (x, get_or-set_same fired v (at fired v + k) 0 h) (omega (arith, is v))
      go (no x) = rw (get_or-set_other fired v w (at fired v + k) 0 x) (omega (arith, is w))

  module _ (wanted : ℕ → ℕ) where
    pub prefix_run : {l : List ℕ} → Prefix G D wanted l → Run G (initially G D) l
    prefix_run none = ended
    prefix_run (more p n) = run_append G (prefix_run p) (fires n.station n.ready ended)

    pub prefix_next : {l : List ℕ} → Prefix G D wanted l → (v : ℕ) → v < G.stations → fired_by G D l v < wanted v → FedBy G D (fired_by G D l) v
        → ((w : ℕ) → w < v → fired_by G D l w < wanted w → ¬ FedBy G D (fired_by G D l) w) → Prefix G D wanted (l ++ (v ∷ []))
    prefix_next {l} p v here left fed lower =
        let S = after G (initially G D) l in
        let h = holds G D (prefix_run p) in
        more p (record {
          station = here;
          left = left;
          ready = counts_ready G D S h v fed;
          lowest = λ w k a r. lower w k a (ready_counts G D S h w r);
        })

    pub prefix_list : {l m : List ℕ} → Prefix G D wanted l → FiringList G wanted (after G (initially G D) l) m → FiringList G wanted (initially G D) (l ++ m)
    prefix_list none f = f
    prefix_list {m = m} (more {l = l} {v = v} p n) f =
        rw (append_assoc l (v ∷ []) m) (prefix_list p (next n (rw (after_append G (initially G D) l (v ∷ [])) at f)))

    -- no station has fired more often than wanted, and each entry is a firing
    pub prefix_few : {l : List ℕ} → Prefix G D wanted l → (v : ℕ) → fired_by G D l v ≤ wanted v
    prefix_few none v = omega arith
    prefix_few (more {l = l} {v = w} p n) v = rw (fired_more l w v) (go (ℕ_discrete v w) (prefix_few p v))
      where
        go : (x : Dec (v ≡ w)) → fired_by G D l v ≤ wanted v → fired_by G D l v + whenever x 1 ≤ wanted v
        go (yes x) ih = rw x (omega (arith, n.left))
        go (no x) ih = omega arith

    pub prefix_length : {l : List ℕ} → Prefix G D wanted l → length l ≡ sum G.stations (fired_by G D l)
    prefix_length none = sym (sum_none G.stations)
    prefix_length (more {l = l} {v = v} p n) =
        omega (arith, length-append l (v ∷ []), prefix_length p, sum_same G.stations (fired_by G D (l ++ (v ∷ []))) (λ w. fired_by G D l w + whenever (ℕ_discrete w v) 1) (λ w k. fired_more l v w), sum_one G.stations (fired_by G D l) v n.station)

    -- as many entries as firings wanted: the list is complete
    pub prefix_whole : {l : List ℕ} → Prefix G D wanted l → length l ≡ sum G.stations wanted → FiringList G wanted (initially G D) l
    prefix_whole {l} p e =
        rw (append-nil l) at (prefix_list p (complete (sum_tight G.stations (fired_by G D l) wanted (prefix_few p) (omega (arith, prefix_length p)))))

    -- fewer, and no station can fire: the list stalls
    pub prefix_stalled : Sound G → {l : List ℕ} → Prefix G D wanted l → length l < sum G.stations wanted → ((w : ℕ) → fired_by G D l w < wanted w → ¬ FedBy G D (fired_by G D l) w) → Stalled G wanted D
    prefix_stalled W {l} p few none_can = record { fired = fired_by G D l; v = some.0; left = some.2; short = short }
      where
        some : (v : ℕ) × (v < G.stations) × (fired_by G D l v < wanted v)
        some = sum_less G.stations (fired_by G D l) wanted (omega (arith, prefix_length p))

        S : State G
        S = after G (initially G D) l

        h : (e : G.Queue) → HoldsAt G D S e
        h = holds G D (prefix_run p)

        short : (w : ℕ) → fired_by G D l w < wanted w → Short G D (fired_by G D l) w
        short w k = elim (ready_or_lacking G W S w) [ inl r ↦ absurd (none_can w k (ready_counts G D S h w r)) | inr r ↦ short_of G D S h w r ]

  module _ (wanted : ℕ → ℕ) where
    next_once : (S : State G) (v w : ℕ) → Next G wanted S v → Next G wanted S w → v ≡ w
    next_once S v w n k =
        order v w (λ lt. absurd (k.lowest v lt n.left n.ready)) (λ eq. eq) (λ gt. absurd (n.lowest w gt k.left k.ready))

    prefix_at : {l : List ℕ} → Prefix G D wanted l → (k : ℕ) → k < length l → Next G wanted (after G (initially G D) (take k l)) (get_or l k 0)
    prefix_at none k h = absurd (omega arith)
    prefix_at (more {l = l} {v = v} p n) k h = go (dec_lt k (length l)) (λ b. prefix_at p k b)
      where
        go : Dec (k < length l) → (k < length l → Next G wanted (after G (initially G D) (take k l)) (get_or l k 0)) → Next G wanted (after G (initially G D) (take k (l ++ (v ∷ [])))) (get_or (l ++ (v ∷ [])) k 0)
        go (yes b) ih = rw (take-append-le k l (v ∷ []) (omega arith), get_or-append l (v ∷ []) 0 k b) (ih b)
        go (no b) ih =
            let e : k ≡ length l = omega (arith, length-append l (v ∷ [])) in
            rw (e, take-append_seam l (v ∷ []), get_or-append_seam l v [] 0) n

    -- of two lists in the making the shorter is the front of the longer
    pub prefix_front : {l l' : List ℕ} → Prefix G D wanted l → Prefix G D wanted l' → length l ≤ length l' → l ≡ take (length l) l'
    prefix_front none p' h = refl
    prefix_front {l' = l'} (more {l = l} {v = v} p n) p' h =
        let b : length l < length l' = omega (arith, length-append l (v ∷ [])) in
        let front : l ≡ take (length l) l' = prefix_front p p' (omega arith) in
        let here = next_once (after G (initially G D) l) v (get_or l' (length l) 0) n (subst (λ (x : List ℕ). Next G wanted (after G (initially G D) x) (get_or l' (length l) 0)) (sym front) (prefix_at p' (length l) b)) in
        let e : length (l ++ (v ∷ [])) ≡ suc (length l) = omega (arith, length-append l (v ∷ [])) in
        rw (e, take-suc l' (length l) 0 b, ← here, ← front) refl

    -- none is longer than one after which no station can fire
    pub prefix_longest : {l l' : List ℕ} → Prefix G D wanted l → Prefix G D wanted l' → ((w : ℕ) → fired_by G D l w < wanted w → ¬ FedBy G D (fired_by G D l) w) → length l' ≤ length l
    prefix_longest {l} {l'} p p' none_can = elim (dec_lt (length l) (length l')) [ yes b ↦ absurd (go b) | no b ↦ omega arith ]
      where
        go : length l < length l' → ⊥
        go b =
            let front : l ≡ take (length l) l' = prefix_front p p' (omega arith) in
            let n = subst (λ (x : List ℕ). Next G wanted (after G (initially G D) x) (get_or l' (length l) 0)) (sym front) (prefix_at p' (length l) b) in
            none_can (get_or l' (length l) 0) n.left (ready_counts G D (after G (initially G D) l) (holds G D (prefix_run wanted p)) (get_or l' (length l) 0) n.ready)

    list_prefix : {S : State G} {m : List ℕ} (l : List ℕ) → S ≡ after G (initially G D) l → Prefix G D wanted l → FiringList G wanted S m → Prefix G D wanted (l ++ m)
    list_prefix l e p (complete h) = rw (append-nil l) p
    list_prefix l e p (next {v = v} {l = m} n t) =
        rw (sym (append_assoc l (v ∷ []) m)) (list_prefix (l ++ (v ∷ [])) (ap (fire G v) e ∙ sym (after_append G (initially G D) l (v ∷ []))) (more p (rw e at n)) t)

    -- where firings are left and no station that has some can fire, no list is complete
    pub stalled_cannot : {l : List ℕ} → Prefix G D wanted l → length l < sum G.stations wanted → ((w : ℕ) → fired_by G D l w < wanted w → ¬ FedBy G D (fired_by G D l) w) → (l' : List ℕ) → ¬ FiringList G wanted (initially G D) l'
    stalled_cannot p few none_can l' f = omega (arith, prefix_longest p (list_prefix [] refl none f) none_can, list_length G wanted f, sum_none G.stations)
