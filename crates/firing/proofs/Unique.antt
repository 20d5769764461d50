-- No second answer meets a contract.
use Prim.Native.Nat.{ℕ, suc, ◌+◌, ◌-◌, ◌≤◌, ◌<◌}
use mathlib.Core.Path.{◌≡◌, refl, sym, ap, ◌∙◌}
use mathlib.Core.Bool.{Bool, true, false}
use mathlib.Core.List.{List, []}
use native.Mathlib.Omega.{arith}
use lib.ListN.{length}
use lib.Seq.{take_all}
use Rattle.std.specs.Prelude.{Option, Some, None}
use Rattle.lists.specs.Front.{at}
use Rattle.lists.specs.Put.{put}
use Rattle.lists.proofs.Order.{order}
use Rattle.lists.proofs.FilledLaws.{same_list, filled_once}
use Rattle.dataflow.specs.Net.{Net}
use Rattle.dataflow.specs.Counts.{sum}
use Rattle.dataflow.specs.Sheet.{Below}
use Rattle.dataflow.proofs.LateLaws.{many_once}
use Rattle.dataflow.proofs.ListLaws.{list_length}
use Rattle.dataflow.proofs.PrefixLaws.{prefix_front, prefix_longest}
use Rattle.dataflow.proofs.SumLaws.{sum_none, sum_place}
use Rattle.dataflow.proofs.TimeLaws.{times_once}
use Rattle.chain.specs.Chain.{CountedChain, net_of, delays_of}
use Rattle.firing.specs.Scan.{LowestThatCan}
use Rattle.firing.specs.Fire.{Wanted, Fires}
use Rattle.firing.specs.Times.{Ordered, Tabled}
use Rattle.firing.specs.Late.{LatestEnd, LateCounts}
use Rattle.chain.proofs.ChainLaws.{sound}
use Rattle.firing.proofs.PeriodLaws.{ranked}

-- of the ready scan
pub ready_unique : (P : ℕ → Type 0) (n : ℕ) (r r' : Option ℕ) → LowestThatCan P n r → LowestThatCan P n r' → r ≡ r'
ready_unique P n None None p q = refl
ready_unique P n None (Some w) p q = absurd (p.below w (q.within w refl) (q.can w refl))
ready_unique P n (Some v) None p q = absurd (q.below v (p.within v refl) (p.can v refl))
ready_unique P n (Some v) (Some w) p q = order v w (λ lt. absurd (q.below v lt (p.can v refl))) (ap Some) (λ gt. absurd (p.below w gt (q.can w refl)))

-- of a list of firings, and of what the lent list holds then
module _ (n m : ℕ) (source sink produced consumed delay wanted : List ℕ) (total : ℕ) (w : Wanted n wanted total) (before : List ℕ) where
  abbrev G : Net
  G = net_of n m source sink produced consumed [] []

  abbrev D : Below m → ℕ
  D = delays_of m delay

  -- a whole list has as many entries as are wanted, and no list in the making has more than one after which no station can fire
  long : {r : Bool} {after : List ℕ} (f : Fires n m source sink produced consumed delay wanted total r before after) → r ≡ true → length f.made ≡ total
  long f t = omega (arith, list_length G (at wanted) (f.complete t [] []), sum_none n, w.adds)

  stays : {r r' : Bool} {after after' : List ℕ} (f : Fires n m source sink produced consumed delay wanted total r before after) (f' : Fires n m source sink produced consumed delay wanted total r' before after')
      → r ≡ false → length f'.made ≤ length f.made
  stays f f' e = prefix_longest G D (at wanted) (f.so_far [] []) (f'.so_far [] []) (f.none_can e [] [])

  module _ {r r' : Bool} {after after' : List ℕ} (f : Fires n m source sink produced consumed delay wanted total r before after) (f' : Fires n m source sink produced consumed delay wanted total r' before after') where
    same_after : length f.made ≡ length f'.made → after ≡ after'
    same_after e =
        let made : f.made ≡ f'.made = prefix_front G D (at wanted) (f.so_far [] []) (f'.so_far [] []) (omega arith) ∙ take_all (length f.made) f'.made (omega arith) in
        f.stored ∙ ap (λ (x : List ℕ). put before 0 x) made ∙ sym f'.stored

    pub fire_list_unique : (r ≡ r') × (after ≡ after')
    fire_list_unique = go r r' refl refl
      where
        go : (b b' : Bool) → r ≡ b → r' ≡ b' → (r ≡ r') × (after ≡ after')
        go true true e e' = (e ∙ sym e', same_after (long f e ∙ sym (long f' e')))
        go true false e e' = absurd (omega (arith, long f e, f'.fewer e', stays f' f e'))
        go false true e e' = absurd (omega (arith, long f' e', f.fewer e, stays f f' e))
        go false false e e' = (e ∙ sym e', same_after (omega (arith, stays f f' e, stays f' f e')))

module _ (n m : ℕ) (source sink produced consumed delay time q : List ℕ) (total : ℕ) (c : CountedChain n m source sink produced consumed q total) where
  -- of the time table
  pub table_unique : (list : List ℕ) → Ordered n m source sink produced consumed delay time q total list → (table table' : List ℕ) → Tabled n m source sink produced consumed delay time q total table
      → Tabled n m source sink produced consumed delay time q total table' → length table ≡ length table' → table ≡ table'
  table_unique list o table table' t t' l = same_list total table table' l within t.rest t'.rest
    where
      within : (k : ℕ) → k < total → at table k ≡ at table' k
      within k b =
          let x = sum_place (at q) n k (omega (arith, c.adds)) in
          let e : k ≡ sum x.0 (at q) + (suc x.1 - 1) = omega (arith, x.4) in
          rw e
          (times_once (net_of n m source sink produced consumed time q) (sound c time) (delays_of m delay) _
          (ranked n m source sink produced consumed delay time q total c o t) _ _ t.times t'.times x.0 (suc x.1) (record { low = omega arith; high = omega (arith, x.3) }))

-- of the latest finish
pub latest_end_unique : (n : ℕ) (q time table : List ℕ) (r r' : ℕ) → LatestEnd n q time table r → LatestEnd n q time table r' → r ≡ r'
latest_end_unique n q time table r r' p p' =
    let x = p.reached in
    let x' = p'.reached in
    omega (arith, x.2, x'.2, p.above x'.0 x'.1, p'.above x.0 x.1)

-- of the late copies
pub late_counts_unique : (n : ℕ) (q time : List ℕ) (target : ℕ) (table late late' : List ℕ) → LateCounts n q time target table late → LateCounts n q time target table late' → length late ≡ length late' → late ≡ late'
late_counts_unique n q time target table late late' = filled_once n late late' (λ v x y b. many_once _)
