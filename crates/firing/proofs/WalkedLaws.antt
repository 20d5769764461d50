-- The laws of a time table in the making by the forward walk.
use Prim.Native.Nat.{ℕ, suc, ◌+◌, ◌-◌, ◌*◌, ◌/◌, ◌≤◌, ◌<◌, ◌^◌}
use mathlib.Core.Path.{◌≡◌, refl, sym, ap, ◌∙◌}
use mathlib.Core.List.{List, ◌∷◌}
use mathlib.Core.Logic.{inl, inr, ⊎_elim}
use native.Mathlib.Nat.{mul-le-mul_right, div-lt_iff_lt-mul, mod-eq_of_lt}
use native.Mathlib.Omega.{arith}
use native.Mathlib.Decide.{ℕ_discrete, dec_le}
use lib.ListN.{length, set, take, drop, length-set, replicate}
use lib.Seq.{get_or-set_same, get_or-set_other}
use Rattle.lists.specs.Front.{at}
use Rattle.lists.proofs.StoreLaws.{at_zeros, after_store}
use Rattle.lists.proofs.Order.{order, lt_or_ge}
use Rattle.dataflow.specs.Net.{Net, Sound}
use Rattle.dataflow.specs.Counts.{sum}
use Rattle.dataflow.specs.Copies.{Copy}
use Rattle.dataflow.specs.Runs.{whenever, initially, fire, after, Run}
use Rattle.dataflow.specs.Sheet.{Below}
use Rattle.dataflow.specs.Times.{TimeTable, entry}
use Rattle.dataflow.specs.Lists.{FedBy, fired_by}
use Rattle.dataflow.proofs.SumLaws.{sum_before}
use Rattle.dataflow.proofs.SumTable.{latest, sums}
use Rattle.dataflow.proofs.TimeLaws.{start_by, times_exist}
use Rattle.dataflow.proofs.RunLaws.{holds, holds_length}
use Rattle.dataflow.proofs.TakenLaws.{after_append, after_rises, run_ready, ready_counts}
use Rattle.dataflow.proofs.PrefixLaws.{fired_stored}
use Rattle.dataflow.proofs.EntryLaws.{run_before, cut, run_here, entry_station, with_entry}
use Rattle.dataflow.proofs.RankLaws.{Ranked, round_ranked}
use Rattle.dataflow.proofs.TakerLaws.{FirstTaker, taker_is, taker_once}
use Rattle.dataflow.proofs.WalkLaws.{AllPut, OneMore, Walked, HandedOn, PushesOn, walked_none, walked_follows, walked_pushes, walked_ends}
use Rattle.chain.specs.Chain.{CountedChain, net_of, delays_of}
use Rattle.chain.proofs.ChainLaws.{sound}
use Rattle.firing.specs.Times.{Ordered, Tabled}
use Rattle.firing.specs.Walk.{Follows, first_token, taker_entry, Given, Pushes, Walkable, Walks}

-- two copies, counted from 0, with one entry are one
one_copy : (q : ℕ → ℕ) (v w i j : ℕ) → i < q v → j < q w → sum v q + i ≡ sum w q + j → (v ≡ w) × (i ≡ j)
one_copy q v w i j a b e =
    order v w
    (λ lt. absurd (omega (arith, sum_before q v w lt)))
    (λ eq. (eq, omega (arith, ap (λ (x : ℕ). sum x q) eq)))
    (λ gt. absurd (omega (arith, sum_before q w v gt)))

module _ (n m : ℕ) (source sink produced consumed delay time q : List ℕ) (total : ℕ) (list : List ℕ) where
  abbrev G : Net
  G = net_of n m source sink produced consumed time q

  abbrev D : Below m → ℕ
  D = delays_of m delay

  -- after the first k firings of the list: what has fired is final, and what has not holds the latest of what was pushed into it
  pub record WalkedSoFar (table fired : List ℕ) (k : ℕ) : Type 0 where
    pub long : length table ≡ 256
    pub wide : length fired ≡ 32
    pub is : (v : ℕ) → at fired v ≡ fired_by G D (take k list) v
    pub walked : (s : ℕ → ℕ → ℕ) → TimeTable G D s → Walked G D s (at fired) (at fired) (entry (at q) table)
    pub bound : (j : ℕ) → at table j ≤ k * 65535
    pub rest : (j : ℕ) → total ≤ j → at table j ≡ 0

  pub none_walked : WalkedSoFar (replicate 256 0) (replicate 32 0) 0
  none_walked = record {
    long = refl;
    wide = refl;
    is = λ v. at_zeros 32 v;
    walked = λ s t. walked_none G D s (at_zeros 32) (λ v i c. at_zeros 256 (sum v (at q) + (i - 1)));
    bound = λ j. omega (arith, at_zeros 256 j);
    rest = λ j h. at_zeros 256 j;
  }

  module _ (c : CountedChain n m source sink produced consumed q total) (o : Ordered n m source sink produced consumed delay time q total list) where
    W : Sound G
    W = sound c time

    rank : Ranked G D G.q (length (take total list))
    rank = round_ranked G W D (record { order = take total list; run = o.run; all_fired = o.whole })

    module _ (k : ℕ) (h : k < total) where
      earlier : Run G (initially G D) (take k list)
      earlier = run_before G (initially G D) total list o.long o.run k (omega arith)

      here : at list k < n
      here = entry_station G (initially G D) total list o.long o.run k h

      abbrev F : ℕ → ℕ
      F = fired_by G D (take k list)

      abbrev v : ℕ
      v = at list k

      -- its station fires once more in the whole list than before entry k
      left : F v < at q v
      left = go (ℕ_discrete v v) fires_more
        where
          fires_more : (fire G v (after G (initially G D) (take k list))).fired v ≤ at q v
          fires_more =
              let e = after_append G (initially G D) (take k list) (v ∷ drop (suc k) (take total list)) in
              let w = rw (cut G (initially G D) total list o.long o.run k h, e) at (o.whole v here) in
              omega (arith, after_rises G (fire G v (after G (initially G D) (take k list))) (drop (suc k) (take total list)) v, w)

          go : (x : Dec (v ≡ v)) → F v + whenever x 1 ≤ at q v → F v < at q v
          go (yes x) b = omega arith
          go (no x) b = absurd (x refl)

      module _ {table fired : List ℕ} (z : WalkedSoFar table fired k) where
        abbrev copy : ℕ
        copy = at fired v

        abbrev own : ℕ
        own = sum v (at q) + copy

        next : copy < at q v
        next = omega (arith, z.is v, left)

        own_within : own < total
        own_within = omega (arith, sum_before (at q) v n here, c.adds, next)

        fed : FedBy G D (at fired) v
        fed e to =
            let a = ready_counts G D (after G (initially G D) (take k list)) (holds G D earlier) v (run_ready G (run_here G (initially G D) total list o.long o.run k h)) e to in
            omega (arith, a, ap (λ (x : ℕ). x * at consumed e.0) (z.is v), ap (λ (x : ℕ). x * at produced e.0) (z.is (at source e.0)))

        all_put : AllPut G D (at fired)
        all_put e =
            let a = holds_length (D e) (at produced e.0) (at consumed e.0) _ _ _ (holds G D earlier e) in
            omega (arith, a, ap (λ (x : ℕ). x * at consumed e.0) (z.is (at sink e.0)), ap (λ (x : ℕ). x * at produced e.0) (z.is (at source e.0)))

        here_fired : v < length fired
        here_fired = omega (arith, here, c.chain.few, z.wide)

        one_more : OneMore (at fired) v (at (set fired v (copy + 1)))
        one_more = record { own = omega (arith, get_or-set_same fired v (copy + 1) 0 here_fired); others = λ w x. get_or-set_other fired v w (copy + 1) 0 x }

        at_own : (t : List ℕ) → entry (at q) t v (suc copy) ≡ at t own
        at_own t = let x : sum v (at q) + (suc copy - 1) ≡ own = omega arith in ap (at t) x

        at_last : (t : List ℕ) → 1 ≤ copy → entry (at q) t v copy ≡ at t (own - 1)
        at_last t l = let x : sum v (at q) + (copy - 1) ≡ own - 1 = omega arith in ap (at t) x

        fired_is : (w : ℕ) → at (set fired v (copy + 1)) w ≡ fired_by G D (take (k + 1) list) w
        fired_is w = rw (with_entry G (initially G D) total list o.long o.run k h) (fired_stored G D (take k list) fired v 1 here_fired z.is w)

        -- the copy starts with the one before it
        follows_walked : Follows copy own table → WalkedSoFar (set table own (at table (own - 1))) (set fired v (copy + 1)) (k + 1)
        follows_walked f = record {
          long = simp length-set z.long;
          wide = simp length-set z.wide;
          is = fired_is;
          walked = λ s t. walked_follows G D s W _ rank t (at fired) v fed next one_more f.second (omega (arith, f.low, at_own table, at_last table f.second))
              (at_own started ∙ get_or-set_same table own x 0 room ∙ sym (at_last table f.second)) kept (z.walked s t);
          bound = after_store table own x room (λ j y. y ≤ (k + 1) * 65535) (omega (arith, z.bound (own - 1))) (λ j n. omega (arith, z.bound j));
          rest = λ j l. get_or-set_other table own j x 0 (λ y. omega (arith, own_within)) ∙ z.rest j l;
        }
          where
            x : ℕ
            x = at table (own - 1)

            started : List ℕ
            started = set table own x

            room : own < length table
            room = omega (arith, own_within, c.few, z.long)

            kept : (w j : ℕ) → Copy G w j → (w ≡ v → j ≡ suc copy → ⊥) → entry (at q) started w j ≡ entry (at q) table w j
            kept w j i other =
                get_or-set_other table own (sum w (at q) + (j - 1)) x 0 (λ e.
                let y = one_copy (at q) w v (j - 1) copy (omega (arith, i.low, i.high)) next e in
                other y.0 (omega (arith, y.1, i.low)))

        -- the copy pushes its finish on
        module _ {after : List ℕ} (p : Pushes source sink produced consumed delay q v copy (at table own + at time v) m table after) where
          -- along a queue the first token goes to this copy, counted from 0
          abbrev to : ℕ → ℕ
          to e = first_token produced delay copy e / at consumed e

          taker : (e : Below m) → FirstTaker (D e) (at produced e.0) (at consumed e.0) (suc copy) (suc (to e.0))
          taker e = taker_is (D e) (at produced e.0) (at consumed e.0) copy (c.chain.takes e.0 e.1)

          finished : at table own + at time v ≡ entry (at q) table v (suc copy) + at time v + 0
          finished = omega (arith, at_own table)

          reached : (e : Below m) (g : ℕ) → at source e.0 ≡ v → FirstTaker (D e) (at produced e.0) (at consumed e.0) (suc copy) g → Copy G (at sink e.0) g
              → entry (at q) table v (suc copy) + at time v + 0 ≤ entry (at q) after (at sink e.0) g
          reached e g from t i =
              let same = taker_once (D e) (at produced e.0) (at consumed e.0) (suc copy) g _ t (taker e) in
              let low : to e.0 < at q (at sink e.0) = omega (arith, same, i.high) in
              let a = p.reached e.0 e.1 (record { from = from; inside = omega (arith, (div-lt_iff_lt-mul (c.chain.takes e.0 e.1)).0 low) }) in
              let x : sum (at sink e.0) (at q) + (g - 1) ≡ taker_entry sink produced consumed delay q copy e.0 = omega (arith, same, mod-eq_of_lt low) in
              omega (arith, a, finished, ap (at after) x)

          -- the copy with the entry that was given the finish is one of the round's, and a first taker
          inside : {j x : ℕ} (g : Given source sink produced consumed delay q v copy (at table own + at time v) m j x) → to g.queue < at q (at sink g.queue)
          inside g = (div-lt_iff_lt-mul (c.chain.takes g.queue g.below)).1 g.hands.inside

          handed : (w j : ℕ) → Copy G w j → Given source sink produced consumed delay q v copy (at table own + at time v) m (sum w (at q) + (j - 1)) (entry (at q) after w j)
              → HandedOn G D v (suc copy) (entry (at q) table) w j (entry (at q) after w j)
          handed w j i g =
              let e : Below m = (g.queue, g.below) in
              let y = one_copy (at q) w (at sink g.queue) (j - 1) (to g.queue) (omega (arith, i.low, i.high)) (inside g) g.to in
              let same : suc (to g.queue) ≡ j = omega (arith, y.1, i.low) in
              record { queue = e; from = g.hands.from; to = sym y.0; taker = rw same at (taker e); is = g.is ∙ finished }

          pushed : PushesOn G D v (suc copy) (entry (at q) table) (entry (at q) after)
          pushed = record {
            rises = λ w j i. p.rises (sum w (at q) + (j - 1));
            reached = reached;
            is = λ w j i. ⊎_elim (λ x. inl x) (λ x. inr (handed w j i x)) (p.is (sum w (at q) + (j - 1)));
          }

          leads_walked : ¬ Follows copy own table → at time v ≤ 65535 → WalkedSoFar after (set fired v (copy + 1)) (k + 1)
          leads_walked f small = record {
            long = p.long ∙ z.long;
            wide = simp length-set z.wide;
            is = fired_is;
            walked = λ s t. walked_pushes G D s W _ rank t (at fired) v fed next all_put one_more later pushed (z.walked s t);
            bound = λ j. ⊎_elim (λ x. omega (arith, x, z.bound j)) (λ x. omega (arith, x.is, z.bound own)) (p.is j);
            rest = λ j l. ⊎_elim
                (λ x. x ∙ z.rest j l)
                (λ x. absurd (omega (arith, x.to, inside x, sum_before (at q) (at sink x.queue) n (c.chain.enters x.queue x.below), c.adds)))
                (p.is j);
          }
            where
              later : 1 ≤ copy → entry (at q) table v copy < entry (at q) table v (suc copy)
              later l = ⊎_elim (λ x. omega (arith, x, at_own table, at_last table l)) (λ x. absurd (f (record { second = l; low = x }))) (lt_or_ge (at table (own - 1)) (at table own))

        one_walked : {after : List ℕ} → Walks m source sink produced consumed delay time q v copy table after → WalkedSoFar after (set fired v (copy + 1)) (k + 1)
        one_walked {after} w = go (dec_le 1 copy) (dec_le (at table own) (at table (own - 1)))
          where
            go : Dec (1 ≤ copy) → Dec (at table own ≤ at table (own - 1)) → WalkedSoFar after (set fired v (copy + 1)) (k + 1)
            go (yes a) (yes b) = let f : Follows copy own table = record { second = a; low = b } in rw (w.follows f) (follows_walked f)
            go (yes a) (no b) = let f : ¬ Follows copy own table = λ y. b y.low in leads_walked (w.leads f) f (w.time_fits f)
            go (no a) b = let f : ¬ Follows copy own table = λ y. a y.second in leads_walked (w.leads f) f (w.time_fits f)

      -- What one copy of the walk asks for, and where it leads; w is the entry k.
      module _ {table fired : List ℕ} (z : WalkedSoFar table fired k) (w : ℕ) (is : w ≡ at list k) where
        pub walkable : ((e : ℕ) → at delay e < 2 ^ 30) → Walkable n delay q w (at fired w) table
        walkable small =
            rw is
            (record {
              here = here;
              left = next z;
              delays = small;
              long = z.long;
              starts = λ j. let few : k ≤ 256 = omega (arith, c.few) in omega (arith, z.bound j, mul-le-mul_right 65535 few);
            })

        pub step_walked : {after : List ℕ} → Walks m source sink produced consumed delay time q w (at fired w) table after → WalkedSoFar after (set fired w (at fired w + 1)) (k + 1)
        step_walked x = rw is (one_walked z (rw is at x))

    -- the whole list is done
    pub all_walked : {table fired : List ℕ} → WalkedSoFar table fired total → Tabled n m source sink produced consumed delay time q total table
    all_walked {table} {fired} z = record {
      times = walked_ends G D (start_by G (latest G D (length (take total list)))) W made (λ v i k. omega (arith, k.high, z.is v, all v k)) (z.walked _ made);
      rest = z.rest;
      starts = λ k. omega (arith, z.bound k, mul-le-mul_right 65535 c.few);
    }
      where
        made : TimeTable G D (start_by G (latest G D (length (take total list))))
        made = times_exist G W D (latest G D (length (take total list))) (sums G W D (length (take total list)) rank)

        all : (v : ℕ) {i : ℕ} → Copy G v i → fired_by G D (take total list) v ≡ at q v
        all v k = ⊎_elim (λ l. o.whole v l) (λ l. absurd (omega (arith, c.beyond v l, k.low, k.high))) (lt_or_ge v n)
