-- The laws of a list of firings in the making.
use Prim.Native.Nat.{ℕ, ◌+◌, ◌*◌, ◌≤◌, ◌<◌}
use mathlib.Core.Path.{◌≡◌, refl, ap, ◌∙◌}
use mathlib.Core.List.{List, [], ◌∷◌, ◌++◌}
use mathlib.Core.Bool.{Bool, true, false}
use mathlib.Core.Logic.{⊎_elim}
use native.Mathlib.Omega.{arith}
use lib.ListN.{length, set, take, drop, replicate, length-set, length-append, length-take}
use lib.Seq.{get_or-take}
use Rattle.std.specs.Prelude.{Some, None}
use Rattle.lists.specs.Front.{at}
use Rattle.lists.specs.Put.{put}
use Rattle.lists.proofs.Order.{lt_or_ge}
use Rattle.lists.proofs.PutLaws.{put_nothing, put_one_more, put_front}
use Rattle.lists.proofs.StoreLaws.{at_zeros}
use Rattle.lists.proofs.TestLaws.{differ}
use Rattle.dataflow.specs.Net.{Net}
use Rattle.dataflow.specs.Sheet.{Below}
use Rattle.dataflow.specs.Lists.{FedBy, fired_by, Prefix, none}
use Rattle.dataflow.proofs.SumLaws.{sum_above, sum_none}
use Rattle.dataflow.proofs.ListLaws.{list_length}
use Rattle.dataflow.proofs.PrefixLaws.{fired_stored, prefix_next, prefix_few, prefix_whole}
use Rattle.chain.specs.Chain.{net_of, delays_of}
use Rattle.firing.specs.Scan.{Fed, Can, LowestThatCan}
use Rattle.firing.specs.Fire.{Wanted, Fires}

-- an entry of a list's front is one of the list
pub entry_of : (list : List ℕ) (total k v : ℕ) → k < length (take total list) → v ≡ at (take total list) k → (k < total) × (v ≡ at list k)
entry_of list total k v h is =
    let b : k < total = omega (arith, length-take total list) in
    (b, is ∙ get_or-take total list k 0 b)

module _ (n m : ℕ) (source sink produced consumed delay : List ℕ) where
  abbrev G : List ℕ → List ℕ → Net
  G time q = net_of n m source sink produced consumed time q

  abbrev D : Below m → ℕ
  D = delays_of m delay

  -- fed by the numbers in a list, and by those numbers
  module _ (time q fired : List ℕ) (F : ℕ → ℕ) (same : (v : ℕ) → at fired v ≡ F v) (v : ℕ) where
    pub fed_by : Fed m source sink produced consumed delay fired v → FedBy (G time q) D F v
    fed_by f e to = omega (arith, f e.0 e.1 to, ap (λ (x : ℕ). x * at consumed e.0) (same v), ap (λ (x : ℕ). x * at produced e.0) (same (at source e.0)))

    pub by_fed : FedBy (G time q) D F v → Fed m source sink produced consumed delay fired v
    by_fed f e h to = omega (arith, f (e, h) to, ap (λ (x : ℕ). x * at consumed e) (same v), ap (λ (x : ℕ). x * at produced e) (same (at source e)))

  module _ (wanted : List ℕ) (total : ℕ) (before : List ℕ) where
    -- the first k firings are made and stored, and fired has their numbers
    pub record SoFar (list fired : List ℕ) (k : ℕ) : Type 0 where
      pub wide : length fired ≡ 32
      pub made : List ℕ
      pub long : length made ≡ k
      pub stored : list ≡ put before 0 made
      pub prefix : (time q : List ℕ) → Prefix (G time q) D (at wanted) made
      pub is : (time q : List ℕ) (v : ℕ) → at fired v ≡ fired_by (G time q) D made v

    pub none_fired_lem : SoFar before (replicate 32 0) 0
    none_fired_lem = record {
      wide = refl;
      made = [];
      long = refl;
      stored = put_nothing before 0;
      prefix = λ time q. none;
      is = λ time q v. at_zeros 32 v;
    }

    module _ {list fired : List ℕ} {k : ℕ} (z : SoFar list fired k) where
      -- no station has fired more often than wanted
      pub fired_few : Wanted n wanted total → (v : ℕ) → at fired v ≤ 65536
      fired_few w v =
          let few : at fired v ≤ at wanted v = omega (arith, z.is [] [] v, prefix_few (G [] []) D (at wanted) (z.prefix [] []) v) in
          ⊎_elim (λ l. omega (arith, sum_above n (at wanted) v l, w.adds, w.few)) (λ l. omega (arith, w.beyond v l)) (lt_or_ge v n)

      module _ (v : ℕ) (few : n ≤ 32) (low : LowestThatCan (Can m source sink produced consumed delay wanted fired) n (Some v)) where
        here : v < n
        here = low.within v refl

        -- the lowest station that can fires next and is stored
        pub one_more : SoFar (set list k v) (set fired v (at fired v + 1)) (k + 1)
        one_more = record {
          wide = simp length-set z.wide;
          made = z.made ++ (v ∷ []);
          long = omega (arith, length-append z.made (v ∷ []), z.long);
          stored = let p : k ≡ 0 + length z.made = omega (arith, z.long) in rw (z.stored, p) (put_one_more before 0 z.made v);
          prefix = λ time q.
              prefix_next (G time q) D (at wanted) (z.prefix time q) v here (omega (arith, z.is time q v, (low.can v refl).left)) (fed_by time q fired (fired_by (G time q) D z.made) (z.is time q) v (low.can v refl).fed)
              (λ w l a f. low.below w l (record { left = omega (arith, z.is time q w); fed = by_fed time q fired (fired_by (G time q) D z.made) (z.is time q) w f }));
          is = λ time q. fired_stored (G time q) D z.made fired v 1 (omega (arith, z.wide, here)) (z.is time q);
        }

      -- no station can, and some are left
      pub stalled : k < total → LowestThatCan (Can m source sink produced consumed delay wanted fired) n None → Wanted n wanted total → Fires n m source sink produced consumed delay wanted total false before list
      stalled h low w = record {
        made = z.made;
        stored = z.stored;
        so_far = z.prefix;
        complete = λ e. absurd (differ e refl);
        fewer = λ e. omega (arith, z.long);
        none_can = λ e time q v a f. low.below v (station time q v a) (record { left = omega (arith, z.is time q v); fed = by_fed time q fired (fired_by (G time q) D z.made) (z.is time q) v f });
      }
        where
          station : (time q : List ℕ) (v : ℕ) → fired_by (G time q) D z.made v < at wanted v → v < n
          station time q v a = ⊎_elim (λ l. l) (λ l. absurd (omega (arith, w.beyond v l))) (lt_or_ge v n)

    -- as many firings as wanted
    pub completed : {list fired : List ℕ} → SoFar list fired total → Wanted n wanted total → Fires n m source sink produced consumed delay wanted total true before list
    completed z w = record {
      made = z.made;
      stored = z.stored;
      so_far = z.prefix;
      complete = λ e time q. prefix_whole (G time q) D (at wanted) (z.prefix time q) (omega (arith, z.long, w.adds));
      fewer = λ e. absurd (differ refl e);
      none_can = λ e. absurd (differ refl e);
    }

-- what a whole list leaves in a list that has entries for it
pub written : {n m : ℕ} {source sink produced consumed delay wanted : List ℕ} {total : ℕ} {r : Bool} {before after : List ℕ} (f : Fires n m source sink produced consumed delay wanted total r before after)
    → Wanted n wanted total → r ≡ true → total ≤ length before → (length f.made ≡ total) × (after ≡ f.made ++ drop total before)
written {n} {m} {source} {sink} {produced} {consumed} {delay} {wanted} {total} {before = before} f w t h =
    let l : length f.made ≡ total = omega (arith, list_length (net_of n m source sink produced consumed [] []) (at wanted) (f.complete t [] []), sum_none n, w.adds) in
    (l, rw (f.stored, put_front before f.made (omega arith), l) refl)
