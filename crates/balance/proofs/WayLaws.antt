-- The steps on the way between the ends of a queue were reached by queues no higher than it.
use Prim.Native.Nat.{ℕ, ◌≤◌, ◌<◌}
use mathlib.Core.List.{List}
use mathlib.Core.Logic.{⊎_elim}
use native.Mathlib.Omega.{arith}
use Rattle.lists.specs.Front.{at}
use Rattle.lists.proofs.Order.{le_stable}
use Rattle.balance.specs.declared.way.Step.{Step}
use Rattle.balance.specs.Way.{step, Steps, OnWay, first, second, below_first, below_second}
use Rattle.balance.specs.Tree.{Grown}

module _ {n : ℕ} {source sink produced consumed place : List ℕ} (steps : List Step) (S : Steps steps) (G : Grown n source sink produced consumed place steps) where
  -- every place above one of a and b, up to the other, was reached by a queue no higher than e
  pub record Low (e a b : ℕ) : Type 0 where
    pub up_to_second : (j : ℕ) → a < j → j ≤ b → G.by j ≤ e
    pub up_to_first : (j : ℕ) → b < j → j ≤ a → G.by j ≤ e

  -- a queue with ends at places p and q, on both sides of j, is no lower than the queue by which j was reached
  crosses : (e j p q : ℕ) → (e < G.by j → p < j → q < j) → p < j → j ≤ q → G.by j ≤ e
  crosses e j p q follows h k = le_stable (λ d. let l = follows (omega arith) h in omega arith)

  pub low_ends : (e : ℕ) → at source e < n → at sink e < n → Low e (at place (at source e)) (at place (at sink e))
  low_ends e h k =
      let u = G.places (at source e) h in
      let v = G.places (at sink e) k in
      record {
        up_to_second = λ j l m. crosses e j _ _ (λ b. (G.reached j (omega arith) (omega arith)).along e b) l m;
        up_to_first = λ j l m. crosses e j _ _ (λ b. (G.reached j (omega arith) (omega arith)).against e b) l m;
      }

  -- and so are those between a place and the one it was reached from
  hang_low : (i : ℕ) → 1 ≤ i → i < n → (j : ℕ) → (step steps i).up < j → j ≤ i → G.by j ≤ G.by i
  hang_low i some h j l m =
      let r = G.reached j (omega arith) (omega arith) in
      ⊎_elim
      (λ k. crosses (G.by i) j _ _ (r.against (G.by i)) (omega (arith, k.up)) (omega (arith, k.own)))
      (λ k. crosses (G.by i) j _ _ (r.along (G.by i)) (omega (arith, k.up)) (omega (arith, k.own)))
      (G.reached i some h).hangs

  -- a step of the tree, reached by a queue no higher than e
  pub record LowStep (e i : ℕ) : Type 0 where
    pub some : 1 ≤ i
    pub within : i < n
    pub low : G.by i ≤ e

  pub on_way_low : (e a b i : ℕ) → n ≤ 32 → a < n → b < n → Low e a b → OnWay steps a b i → LowStep e i
  on_way_low e a b i few h k L (first l) = record { some = omega arith; within = h; low = L.up_to_first a l (omega arith) }
  on_way_low e a b i few h k L (second l) = record { some = omega arith; within = k; low = L.up_to_second b l (omega arith) }
  on_way_low e a b i few h k L (below_first l w) =
      let s = (S.fits a (omega arith) (omega arith)).lower in
      on_way_low e (step steps a).up b i few (omega arith) k
      (record {
        up_to_second = λ j x y. omega (arith, hang_low a (omega arith) h j x (omega arith), L.up_to_first a l (omega arith));
        up_to_first = λ j x y. L.up_to_first j x (omega arith);
      }) w
  on_way_low e a b i few h k L (below_second l w) =
      let s = (S.fits b (omega arith) (omega arith)).lower in
      on_way_low e a (step steps b).up i few h (omega arith)
      (record {
        up_to_second = λ j x y. L.up_to_second j x (omega arith);
        up_to_first = λ j x y. omega (arith, hang_low b (omega arith) k j x (omega arith), L.up_to_second b l (omega arith));
      }) w
