-- The raising of counts keeps below every vector that balances, and ends at the smallest.
use Prim.Native.Nat.{ℕ, ◌+◌, ◌-◌, ◌≤◌, ◌<◌}
use mathlib.Core.Path.{◌≡◌, sym, ap, ◌∙◌}
use mathlib.Core.List.{List, [], ◌++◌}
use mathlib.Core.Logic.{⊎_elim}
use native.Mathlib.Omega.{arith}
use lib.ListN.{length, set, drop, replicate, length-set, length-replicate, length-append, length-drop, get_or-append, get_or-replicate}
use lib.Seq.{get_or-append-add, get_or-drop}
use Rattle.lists.specs.Front.{at}
use Rattle.std.specs.Prelude.{None}
use Rattle.lists.specs.Filled.{Filled}
use Rattle.lists.proofs.Order.{lt_or_ge}
use Rattle.dataflow.specs.Net.{Balances}
use Rattle.dataflow.specs.Counts.{sum}
use Rattle.dataflow.proofs.SumLaws.{sum_le, sum_same, sum_above}
use Rattle.chain.specs.Chain.{ChainFits, net_of}
use Rattle.counts.specs.Raising.{Ones, Small, Raises}
use Rattle.counts.specs.Smallest.{Smallest}
use Rattle.lists.proofs.StoreLaws.{at_zeros, after_store}
use Rattle.counts.proofs.SumLaws.{sum_ones, sum_store}

-- q is positive at each station and 0 beyond, total is its sum, and every vector that balances is at or above q
pub record Raising (n m : ℕ) (source sink produced consumed q : List ℕ) (total : ℕ) : Type 0 where
  pub long : length q ≡ 32
  pub some : (v : ℕ) → v < n → 1 ≤ at q v
  pub beyond : (v : ℕ) → n ≤ v → at q v ≡ 0
  pub counted : total ≡ sum n (at q)
  pub below : (x : ℕ → ℕ) → Balances (net_of n m source sink produced consumed [] []) x → (v : ℕ) → at q v ≤ x v

-- n entries of x, before what is left of 32 entries of 0
pub filled_first : (n k x : ℕ) → n ≤ 32 → k ≡ n → (length (replicate k x ++ drop n (replicate 32 0)) ≡ 32) × Filled (λ v y. y ≡ x) n (replicate k x ++ drop n (replicate 32 0))
filled_first n k x h e = (
  simp (length-append, length-replicate, length-drop) (omega arith),
  record {
    is = λ v b.
        let long : v < length (replicate k x) = omega (arith, length-replicate {A = ℕ} k x) in
        get_or-append (replicate k x) _ 0 v long ∙ get_or-replicate k v x 0 (omega arith);
    rest = λ v b.
        let place : v ≡ length (replicate k x) + (v - k) = omega (arith, length-replicate {A = ℕ} k x) in
        ap (at (replicate k x ++ drop n (replicate 32 0))) place ∙ get_or-append-add (replicate k x) (drop n (replicate 32 0)) (v - k) 0 ∙ get_or-drop n (replicate 32 0) (v - k) 0 ∙ at_zeros 32 (n + (v - k));
  },
)

module _ (n m : ℕ) (source sink produced consumed q : List ℕ) where
  -- 1 everywhere is at or below every vector that balances
  ones_below : Ones n q → (x : ℕ → ℕ) → Balances (net_of n m source sink produced consumed [] []) x → (v : ℕ) → at q v ≤ x v
  ones_below O x b v = ⊎_elim (λ h. omega (arith, O.ones.is v h, b.positive v h)) (λ h. omega (arith, O.ones.rest v h)) (lt_or_ge v n)

  pub raise_begin : Ones n q → Raising n m source sink produced consumed q n
  raise_begin O =
      record {
        long = O.long;
        some = λ v h. omega (arith, O.ones.is v h);
        beyond = O.ones.rest;
        counted = sym (sum_same n (at q) (λ v. 1) O.ones.is ∙ sum_ones n);
        below = ones_below O;
      }

  module _ (total : ℕ) (R : Raising n m source sink produced consumed q total) where
    pub counts_small : total ≤ 256 → Small q
    counts_small h =
        record { most = λ v. ⊎_elim (λ k. omega (arith, sum_above n (at q) v k, R.counted)) (λ k. omega (arith, R.beyond v k)) (lt_or_ge v n) }

    module _ (e v count : ℕ) (C : ChainFits n m source sink produced consumed) (h : e < m) (r : Raises source sink produced consumed q e v count) where
      raised_station : v < n
      raised_station = r.end n (C.leaves e h) (C.enters e h)

      pub raise_next : Raising n m source sink produced consumed (set q v count) (total + count - at q v)
      raise_next =
          let l : v < length q = omega (arith, R.long, C.few, raised_station) in
          record {
            long = length-set q v count ∙ R.long;
            some = after_store q v count l (λ w y. w < n → 1 ≤ y) (λ k. omega (arith, r.more)) (λ w d. R.some w);
            beyond = after_store q v count l (λ w y. n ≤ w → y ≡ 0) (λ k. absurd (omega (arith, raised_station))) (λ w d. R.beyond w);
            counted = omega (arith, sum_store q v count l n raised_station, sum_above n (at q) v raised_station, R.counted);
            below = λ x k. after_store q v count l (λ w y. y ≤ x w) (r.asked x (k.balanced (e, h)) (R.below x k _) (R.below x k _)) (λ w d. R.below x k w);
          }

    pub none_fits : 256 < total → Smallest n m source sink produced consumed None
    none_fits h = λ x b s. omega (arith, sum_le n (at q) x (R.below x b), R.counted)
