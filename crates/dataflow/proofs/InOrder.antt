-- Where each queue goes to a higher-numbered station, the round list fires station by station.
use Prim.Native.Nat.{ℕ, zero, suc, ◌+◌, ◌*◌, ◌≤◌, ◌<◌}
use mathlib.Core.Path.{◌≡◌, refl, sym, ap, ◌∙◌}
use mathlib.Core.List.{List, [], ◌∷◌, ◌++◌, append_assoc, append-nil}
use native.Mathlib.Nat.{mul-le-mul_right}
use native.Mathlib.Omega.{arith}
use native.Mathlib.Decide.{ℕ_discrete}
use lib.ListN.{replicate}
use Rattle.dataflow.specs.Net.{Net, Sound}
use Rattle.dataflow.specs.Runs.{whenever}
use Rattle.dataflow.specs.Lists.{RoundList, FedBy, fired_by, Prefix, none}
use Rattle.dataflow.proofs.PrefixLaws.{fired_again, prefix_next, prefix_length, prefix_whole}
use Rattle.dataflow.proofs.SumLaws.{sum_same}

-- each of the first n stations, as often as its count
abbrev pub in_order_list : (q : ℕ → ℕ) → ℕ → List ℕ
in_order_list q zero = []
in_order_list q (suc v) = in_order_list q v ++ replicate (q v) v

module _ (G : Net) (D : G.Queue → ℕ) where
  one_more : (l : List ℕ) (k v : ℕ) → l ++ replicate (suc k) v ≡ (l ++ (v ∷ [])) ++ replicate k v
  one_more l k v = sym (append_assoc l (v ∷ []) (replicate k v))

  fired_own : (l : List ℕ) (k v : ℕ) → fired_by G D (l ++ replicate k v) v ≡ fired_by G D l v + k
  fired_own l k v = fired_again G D l k v v ∙ go (ℕ_discrete v v)
    where
      go : (x : Dec (v ≡ v)) → fired_by G D l v + whenever x k ≡ fired_by G D l v + k
      go (yes x) = refl
      go (no x) = absurd (x refl)

  fired_other : (l : List ℕ) (k v w : ℕ) → (w ≡ v → ⊥) → fired_by G D (l ++ replicate k v) w ≡ fired_by G D l w
  fired_other l k v w n = fired_again G D l k v w ∙ go (ℕ_discrete w v)
    where
      go : (x : Dec (w ≡ v)) → fired_by G D l w + whenever x k ≡ fired_by G D l w
      go (yes x) = absurd (n x)
      go (no x) = omega arith

  -- the stations below v have fired as often as their counts, and the others not at all
  record Through (v : ℕ) (l : List ℕ) : Type 0 where
    list : Prefix G D G.q l
    done : (w : ℕ) → w < v → fired_by G D l w ≡ G.q w
    rest : (w : ℕ) → v ≤ w → fired_by G D l w ≡ 0

  module _ (W : Sound G) (up : (e : G.Queue) → G.source e < G.sink e) where
    again : (v k : ℕ) {l : List ℕ} → v < G.stations → Prefix G D G.q l → ((w : ℕ) → w < v → fired_by G D l w ≡ G.q w) → fired_by G D l v + k ≤ G.q v → Prefix G D G.q (l ++ replicate k v)
    again v zero {l} here p done left = rw (append-nil l) p
    again v (suc k) {l} here p done left =
        rw (one_more l k v)
        (again v k here (prefix_next G D G.q p v here (omega arith) fed (λ w b a f. omega (arith, done w b)))
        (λ w b. fired_other l 1 v w (λ e. omega arith) ∙ done w b) (omega (arith, fired_own l 1 v)))
      where
        fed : FedBy G D (fired_by G D l) v
        fed e to =
            let low : suc (fired_by G D l v) ≤ G.q v = omega arith in
            omega (
              arith,
              mul-le-mul_right (G.consumed e) low,
              W.counts.balanced e,
              ap (λ (w : ℕ). G.q w * G.consumed e) to,
              ap (λ (x : ℕ). x * G.produced e) (done (G.source e) (omega (arith, up e, to))),
            )

    through : (v : ℕ) → v ≤ G.stations → Through v (in_order_list G.q v)
    through zero h = record { list = none; done = λ w b. absurd (omega arith); rest = λ w b. refl }
    through (suc v) h = go (through v (omega arith))
      where
        go : Through v (in_order_list G.q v) → Through (suc v) (in_order_list G.q (suc v))
        go t = record {
          list = again v (G.q v) (omega arith) t.list t.done (omega (arith, t.rest v (omega arith)));
          done = λ w b. elim (ℕ_discrete w v) [
            | yes e ↦ rw e (omega (arith, fired_own (in_order_list G.q v) (G.q v) v, t.rest v (omega arith)))
            | no n ↦ fired_other (in_order_list G.q v) (G.q v) v w n ∙ t.done w (omega arith)
          ];
          rest = λ w b. fired_other (in_order_list G.q v) (G.q v) v w (λ e. omega arith) ∙ t.rest w (omega arith);
        }

    pub in_order : RoundList G D (in_order_list G.q G.stations)
    in_order =
        let t = through G.stations (omega arith) in
        prefix_whole G D G.q t.list (prefix_length G D G.q t.list ∙ sum_same G.stations (fired_by G D (in_order_list G.q G.stations)) G.q t.done)
