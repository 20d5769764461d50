-- The laws of back and of the start list's firings.
use Prim.Native.Nat.{ℕ, zero, suc, ◌+◌, ◌*◌, ◌≤◌, ◌<◌, max}
use mathlib.Core.Path.{◌≡◌, refl, ap, ◌∙◌}
use mathlib.Core.List.{List, [], ◌∷◌, map}
use native.Mathlib.Nat.{mul-le-mul_right}
use native.Mathlib.Omega.{arith}
use native.Mathlib.Numerals.{add-one}
use native.Mathlib.Decide.{dec_lt}
use lib.ListN.{length, take, get_or, length-map, length-take}
use Rattle.std.specs.Int.{div_ceil}
use Rattle.std.specs.List.{sum_by, fold, reduce, zip}
use Rattle.std.specs.Option.{unwrap_or}
use Rattle.std.proofs.lemmas.List.{get_or-map, get_or-take, get_or_read, take-map}
use Rattle.std.proofs.lemmas.List.Sums.{sum_by_more, fold_more}
use Rattle.std.proofs.lemmas.Slice.Zip.{length-zip, get_or-zip}
use Rattle.lists.specs.Front.{at}
use Rattle.dataflow.specs.Net.{Net}
use Rattle.dataflow.specs.Counts.{sum}
use Rattle.dataflow.specs.Lists.{Back}
use Rattle.chain.specs.Ceiling.{Ceiling}
use Rattle.chain.proofs.CeilingLaws.{ceiling_is}
use Rattle.retimed.specs.Back.{BackOf}

pub back_none : (q retiming : List ℕ) → BackOf 0 q retiming 0
back_none q retiming = record { covers = λ v h. absurd (omega arith); least = λ b h. omega arith }

-- after one more station
pub back_more : (q retiming : List ℕ) {v c x : ℕ} → Ceiling (at retiming v) (at q v) x → BackOf v q retiming c → BackOf (v + 1) q retiming (max c x)
back_more q retiming {v} {c} {x} e b = record {
  covers = λ w h.
      let l : c ≤ max c x = omega arith in
      let r : x ≤ max c x = omega arith in
      elim (dec_lt w v) [
        | yes a ↦ omega (arith, b.covers w a, mul-le-mul_right (at q w) l)
        | no a ↦ let s : w ≡ v = omega arith in rw s (omega (arith, e.enough, mul-le-mul_right (at q v) r))
      ];
  least = λ k h.
      let l = b.least k (λ w a. h w (omega arith)) in
      let r = e.least k (h v (omega arith)) in
      omega arith;
}

-- how many rounds make up for a retiming at a count
abbrev pub rounds : ℕ × ℕ → ℕ
rounds p = div_ceil p.0 p.1

-- the counts of the first n pairs are positive
pub count_of_pair : (n : ℕ) (q retiming : List ℕ) → ((v : ℕ) → v < n → 1 ≤ at q v) → (k : ℕ) (p : ℕ × ℕ) → k < length (take n (zip retiming q)) → p ≡ get_or (take n (zip retiming q)) k p → 1 ≤ p.1
count_of_pair n q retiming some k p b is =
    let pairs = zip retiming q in
    let within : (k < n) × (k < length retiming) × (k < length q) = omega (arith, simp (length-take, length-zip) at b) in
    let here : p ≡ (at retiming k, at q k) = get_or_read (take n pairs) k p b is (0, 0) ∙ get_or-take n pairs k (0, 0) within.0 ∙ get_or-zip retiming q k (0, 0) within.1 within.2 in
    omega (arith, some k within.0, ap (λ (z : ℕ × ℕ). z.1) here)

-- the largest of a list is what a list that begins with 0 comes to
pub largest : (l : List ℕ) → unwrap_or (reduce max l) 0 ≡ fold max 0 l
largest [] = refl
largest (x ∷ l) = let e : max 0 x ≡ x = omega arith in rw e

pub back_front : (n : ℕ) (q retiming : List ℕ) → n ≤ length q → n ≤ length retiming → ((v : ℕ) → v < n → 1 ≤ at q v) → BackOf n q retiming (fold max 0 (map rounds (take n (zip retiming q))))
back_front zero q retiming h k some = back_none q retiming
back_front (suc n) q retiming h k some =
    let pairs = zip retiming q in
    let quotients = map rounds pairs in
    let long : n < length pairs = simp length-zip (omega arith) in
    let enough : n < length quotients = simp length-map long in
    let here : at quotients n ≡ rounds (at retiming n, at q n) = get_or-map rounds pairs n (0, 0) 0 long ∙ ap rounds (get_or-zip retiming q n (0, 0) k h) in
    let more : fold max 0 (take (n + 1) quotients) ≡ max (fold max 0 (take n quotients)) (rounds (at retiming n, at q n)) = fold_more max 0 quotients n 0 enough ∙ ap (max (fold max 0 (take n quotients))) here in
    let before = back_front n q retiming (omega arith) (omega arith) (λ v b. some v (omega arith)) in
    rw (← add-one n, ← take-map, more, take-map) (back_more q retiming (ceiling_is (at retiming n) (at q n) (some n (omega arith))) before)

-- a sum of the first n entries is one over their places
pub front_sum : (n : ℕ) (l : List ℕ) → n ≤ length l → sum_by (λ x. x) (take n l) ≡ sum n (at l)
front_sum zero l h = refl
front_sum (suc n) l h = rw (← add-one n) (sum_by_more (λ x. x) l n 0 h ∙ ap (λ (x : ℕ). x + at l n) (front_sum n l (omega arith)))

-- n numbers of at most 65,280
pub sum_most : (n : ℕ) (l : List ℕ) → ((v : ℕ) → v < n → at l v ≤ 65280) → sum n (at l) ≤ n * 65280
sum_most zero l h = omega arith
sum_most (suc n) l h = omega (arith, sum_most n l (λ v b. h v (omega arith)), h n (omega arith))

-- it is back of every net with these counts
pub back_is : (G : Net) {n : ℕ} {q retiming : List ℕ} {c : ℕ} → G.stations ≡ n → ((v : ℕ) → G.q v ≡ at q v) → BackOf n q retiming c → Back G (at retiming) c
back_is G {q = q} {c = c} n same b = record {
  covers = λ v h. omega (arith, b.covers v (omega arith), ap (λ (x : ℕ). c * x) (same v));
  least = λ k h. b.least k (λ v l. omega (arith, h v (omega arith), ap (λ (x : ℕ). k * x) (same v)));
}
