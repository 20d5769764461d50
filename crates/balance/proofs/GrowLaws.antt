-- The growing of the tree, one station after the other.
use Prim.Native.Nat.{ℕ, zero, suc, ◌+◌, ◌≤◌, ◌<◌}
use mathlib.Core.Path.{◌≡◌, refl, sym, ap, ◌∙◌}
use mathlib.Core.Bool.{Bool, true, false}
use mathlib.Core.List.{List}
use mathlib.Core.Logic.{inl, inr, ⊎_elim}
use native.Mathlib.Decide.{ℕ_discrete}
use native.Mathlib.Omega.{arith}
use lib.ListN.{length, set, replicate, length-set, length-replicate, get_or-replicate}
use lib.Seq.{get_or-set_same, get_or-set_other}
use Rattle.std.specs.Prelude.{Option, Some, None, IsSome}
use Rattle.lists.specs.Front.{at}
use Rattle.lists.proofs.Order.{order}
use Rattle.lists.proofs.StoreLaws.{at_zeros, after_store}
use Rattle.lists.proofs.TestLaws.{differ}
use Rattle.chain.specs.Chain.{ChainFits}
use Rattle.counts.specs.declared.Crossing.{Crossing}
use Rattle.counts.specs.Joining.{Ends, AllJoined, mark, Beside, Crosses}
use Rattle.counts.proofs.MarkLaws.{Marking, no_mark, not_false, mark_first, crossing_queue, new_station, mark_next, all_marked, not_joined}
use Rattle.balance.specs.declared.way.Step.{Step}
use Rattle.balance.specs.declared.reaching.Seen.{Seen}
use Rattle.balance.specs.Way.{step, RateFits, Steps}
use Rattle.balance.specs.Tree.{SeenFrom, Sees, Hangs, Follows, Reached, Grown}

-- so many stations have a place, those that are marked, and every other has 32, beyond all places; `who` and `by` are the station and the queue by place
pub record Growing (n m : ℕ) (source sink produced consumed : List ℕ) (marked : List Bool) (place : List ℕ) (steps : List Step) (count : ℕ) : Type 0 where
  pub marking : Marking n m source sink marked count
  pub few : count ≤ n
  pub long_place : length place ≡ 32
  pub long_steps : length steps ≡ 32
  pub who : List ℕ
  pub by : List ℕ
  pub long_who : length who ≡ 32
  pub long_by : length by ≡ 32
  pub stations : (i : ℕ) → at who i < n
  pub seen : (v : ℕ) → mark marked v ≡ true → at place v < count
  pub back : (v : ℕ) → mark marked v ≡ true → at who (at place v) ≡ v
  pub unseen : (v : ℕ) → v < n → mark marked v ≡ false → at place v ≡ 32
  pub fits : Steps steps
  pub reached : (i : ℕ) → 1 ≤ i → i < count → Reached source sink produced consumed place steps (at by i) i

module _ (n m : ℕ) (source sink produced consumed : List ℕ) (C : ChainFits n m source sink produced consumed) where
  ends : Ends n m source sink
  ends = record { some = C.some; few = C.few; few_queues = C.few_queues; leaves = C.leaves; enters = C.enters }

  -- the step of a place that no queue has reached yet
  abbrev no_step : Step
  no_step = record { up = 0; near = 1; far = 1 }

  one_rate : RateFits 1
  one_rate = record { some = omega arith; most = omega arith }

  alone_back : (v : ℕ) → mark (set (replicate 32 false) 0 true) v ≡ true → v ≡ 0
  alone_back zero e = refl
  alone_back (suc v) e = absurd (differ e (no_mark 31 v))

  alone_unseen : (v : ℕ) → v < n → mark (set (replicate 32 false) 0 true) v ≡ false → at (set (replicate 32 32) 0 0) v ≡ 32
  alone_unseen zero h e = absurd (differ refl e)
  alone_unseen (suc v) h e = get_or-replicate {A = ℕ} 31 v 32 0 (omega (arith, C.few))

  -- station 0 alone
  pub grow_first : Growing n m source sink produced consumed (set (replicate 32 false) 0 true) (set (replicate 32 32) 0 0) (replicate 32 no_step) 1
  grow_first = record {
    marking = mark_first n m source sink C.some;
    few = C.some;
    long_place = length-set {A = ℕ} (replicate 32 32) 0 0 ∙ length-replicate {A = ℕ} 32 32;
    long_steps = length-replicate {A = Step} 32 no_step;
    who = replicate 32 0;
    by = replicate 32 0;
    long_who = length-replicate {A = ℕ} 32 0;
    long_by = length-replicate {A = ℕ} 32 0;
    stations = λ i. omega (arith, at_zeros 32 i, C.some);
    seen = λ v e. rw (alone_back v e) (omega arith);
    back = λ v e. rw (alone_back v e) refl;
    unseen = alone_unseen;
    fits = record {
      fits = λ i l h. rw (get_or-replicate {A = Step} 32 i no_step (record { up = 0; near = 0; far = 0 }) h) (record { lower = l; near_rate = one_rate; far_rate = one_rate });
    };
    reached = λ i l h. absurd (omega arith);
  }

  module _ (marked : List Bool) (place : List ℕ) (steps : List Step) (count : ℕ) (M : Growing n m source sink produced consumed marked place steps count) where
    -- while stations are left, some queue leads to one of them
    pub leads : AllJoined n m source sink → count < n → (r : Option Crossing) → Crosses m source sink marked r → IsSome r
    leads all more None X = absurd (not_joined n m source sink marked count M.marking C.some more X all)
    leads all more (Some c) X = refl

    has_mark : (v : ℕ) → v < n → at place v < count → mark marked v ≡ true
    has_mark v h l = not_false _ (λ f. omega (arith, M.unseen v h f, M.few, C.few))

    module _ (more : count < n) (c : Crossing) (X : Crosses m source sink marked (Some c)) where
      h : c.queue < m
      h = crossing_queue n m source sink marked count M.marking c X

      new_place : c.station < n
      new_place = new_station n m source sink marked count M.marking c X ends

      -- the queue's other end has its place
      end_marked : (s : Seen) → Sees source sink produced consumed c.queue c.station s → mark marked s.station ≡ true
      end_marked s =
          ⊎_elim
          (λ q. ⊎_elim (λ b. rw q.station b.known) (λ b. absurd (other q b)) X.leads.beside)
          (λ q. ⊎_elim (λ b. absurd (other q b)) (λ b. rw q.station b.known) X.leads.beside)
        where
          other : {near far near_rate far_rate : List ℕ} → SeenFrom near far near_rate far_rate c.queue c.station s → Beside far near marked c.station c.queue → ⊥
          other q b = differ b.known (ap (mark marked) (sym q.end) ∙ X.leads.new)

      module _ (s : Seen) (Q : Sees source sink produced consumed c.queue c.station s) where
        other_end : s.station < n
        other_end = ⊎_elim (λ q. rw q.station (C.enters c.queue h)) (λ q. rw q.station (C.leaves c.queue h)) Q

        abbrev new_step : Step
        new_step = record { up = at place s.station; near = s.near; far = s.far }

        abbrev next_place : List ℕ
        next_place = set place c.station count

        abbrev next_steps : List Step
        next_steps = set steps count new_step

        parent_below : at place s.station < count
        parent_below = M.seen s.station (end_marked s Q)

        -- the new station had no place, and has the last
        no_place : at place c.station ≡ 32
        no_place = M.unseen c.station new_place X.leads.new

        last_place : at next_place c.station ≡ count
        last_place = get_or-set_same place c.station count 0 (omega (arith, M.long_place, new_place, C.few))

        -- every other place stays
        kept : (v : ℕ) → (v ≡ c.station → ⊥) → at next_place v ≡ at place v
        kept v d = get_or-set_other place c.station v count 0 d

        kept_old : (v : ℕ) → at place v < count → at next_place v ≡ at place v
        kept_old v l = kept v (λ e. omega (arith, ap (at place) e, no_place, C.few))

        kept_new : (v : ℕ) → at next_place v < count → at next_place v ≡ at place v
        kept_new v l = kept v (λ e. omega (arith, ap (at next_place) e, last_place))

        -- so does every other step
        kept_step : (i : ℕ) → (i ≡ count → ⊥) → step next_steps i ≡ step steps i
        kept_step i d = get_or-set_other steps count i new_step _ d

        last_step : step next_steps count ≡ new_step
        last_step = get_or-set_same steps count new_step _ (omega (arith, M.long_steps, C.few))

        kept_entry : (l : List ℕ) (x i : ℕ) → i < count → at (set l count x) i ≡ at l i
        kept_entry l x i k = get_or-set_other l count i x 0 (λ e. omega arith)

        new_entry : (l : List ℕ) (x : ℕ) → length l ≡ 32 → at (set l count x) count ≡ x
        new_entry l x long = get_or-set_same l count x 0 (omega (arith, C.few))

        old_hangs : {near_end far_end near_rate far_rate : List ℕ} (k i : ℕ) → 1 ≤ i → i < count → Hangs near_end far_end near_rate far_rate place steps k i → Hangs near_end far_end near_rate far_rate next_place next_steps k i
        old_hangs k i some l H =
            let lower = (M.fits.fits i some (omega (arith, C.few))).lower in
            let same = kept_step i (λ e. omega arith) in
            record {
              own = kept_old _ (omega (arith, H.own)) ∙ H.own;
              up = kept_old _ (omega (arith, H.up)) ∙ H.up ∙ ap (λ (x : Step). x.up) (sym same);
              near = ap (λ (x : Step). x.near) same ∙ H.near;
              far = ap (λ (x : Step). x.far) same ∙ H.far;
            }

        old_follows : (i u v : ℕ) → i < count → Follows place i u v → Follows next_place i u v
        old_follows i u v l F a =
            let b = F (omega (arith, kept_new u (omega arith))) in
            omega (arith, kept_old v (omega arith))

        old_reached : (k i : ℕ) → 1 ≤ i → i < count → Reached source sink produced consumed place steps k i → Reached source sink produced consumed next_place next_steps k i
        old_reached k i some l R = record {
          hangs = ⊎_elim (λ H. inl (old_hangs k i some l H)) (λ H. inr (old_hangs k i some l H)) R.hangs;
          along = λ f b. old_follows i _ _ l (R.along f b);
          against = λ f b. old_follows i _ _ l (R.against f b);
        }

        new_hangs : {near_end far_end near_rate far_rate : List ℕ} → SeenFrom near_end far_end near_rate far_rate c.queue c.station s → Hangs near_end far_end near_rate far_rate next_place next_steps c.queue count
        new_hangs q = record {
          own = rw (← q.end) last_place;
          up = rw (← q.station) (kept_old s.station parent_below ∙ ap (λ (x : Step). x.up) (sym last_step));
          near = ap (λ (x : Step). x.near) last_step ∙ q.near;
          far = ap (λ (x : Step). x.far) last_step ∙ q.far;
        }

        new_follows : (u v : ℕ) → u < n → mark marked u ≡ mark marked v → Follows next_place count u v
        new_follows u v b same a =
            let l = M.seen v (sym same ∙ has_mark u b (omega (arith, kept_new u a))) in
            omega (arith, kept_old v l)

        new_reached : Reached source sink produced consumed next_place next_steps c.queue count
        new_reached = record {
          hangs = ⊎_elim (λ q. inl (new_hangs q)) (λ q. inr (new_hangs q)) Q;
          along = λ f b. new_follows (at source f) (at sink f) (C.leaves f (omega (arith, h))) (X.lowest.lowest.below f b);
          against = λ f b. new_follows (at sink f) (at source f) (C.enters f (omega (arith, h))) (sym (X.lowest.lowest.below f b));
        }

        new_rates : RateFits s.near × RateFits s.far
        new_rates =
            let p : RateFits (at produced c.queue) = record { some = C.makes c.queue h; most = C.makes_most c.queue h } in
            let t : RateFits (at consumed c.queue) = record { some = C.takes c.queue h; most = C.takes_most c.queue h } in
            ⊎_elim (λ q. (rw q.near p, rw q.far t)) (λ q. (rw q.near t, rw q.far p)) Q

        next_fits : Steps next_steps
        next_fits = record {
          fits = λ i some l. elim (ℕ_discrete i count) [
            | yes e ↦ rw (e, last_step) (record { lower = parent_below; near_rate = new_rates.0; far_rate = new_rates.1 })
            | no d ↦ rw (kept_step i d) (M.fits.fits i some l)
          ];
        }

        -- a station with a mark is the new one, or had its mark
        by_mark : {P : Type 0} (v : ℕ) → mark (set marked c.station true) v ≡ true → (v ≡ c.station → P) → ((v ≡ c.station → ⊥) → mark marked v ≡ true → P) → P
        by_mark v e new old = elim (ℕ_discrete v c.station) [ yes q ↦ new q | no d ↦ old d (sym (get_or-set_other marked c.station v true false d) ∙ e) ]

        next_unseen : (v : ℕ) → v < n → mark (set marked c.station true) v ≡ false → at next_place v ≡ 32
        next_unseen v b e =
            let long : c.station < length marked = omega (arith, M.marking.long, new_place, C.few) in
            elim (ℕ_discrete v c.station) [
              | yes q ↦ absurd (differ (get_or-set_same marked c.station true false long) (sym (ap (mark (set marked c.station true)) q) ∙ e))
              | no d ↦ kept v d ∙ M.unseen v b (sym (get_or-set_other marked c.station v true false d) ∙ e)
            ]

        pub grow_next : Growing n m source sink produced consumed (set marked c.station true) next_place next_steps (count + 1)
        grow_next = record {
          marking = mark_next n m source sink marked count M.marking c X ends;
          few = omega arith;
          long_place = length-set place c.station count ∙ M.long_place;
          long_steps = length-set steps count new_step ∙ M.long_steps;
          who = set M.who count c.station;
          by = set M.by count c.queue;
          long_who = length-set M.who count _ ∙ M.long_who;
          long_by = length-set M.by count _ ∙ M.long_by;
          stations = after_store M.who count c.station (omega (arith, M.long_who, C.few)) (λ i v. v < n) new_place (λ i d. M.stations i);
          seen = λ v e. by_mark v e (λ q. rw (q, last_place) (omega arith)) (λ d k. omega (arith, kept v d, M.seen v k));
          back = λ v e. by_mark v e
              (λ q. rw (q, last_place) (new_entry M.who _ M.long_who))
              (λ d k. rw (kept v d) (kept_entry M.who _ _ (M.seen v k) ∙ M.back v k));
          unseen = next_unseen;
          fits = next_fits;
          reached = λ i some l. order i count
              (λ lt. rw (kept_entry M.by c.queue i lt) (old_reached _ i some lt (M.reached i some lt)))
              (λ eq. rw (eq, new_entry M.by c.queue M.long_by) new_reached)
              (λ gt. absurd (omega arith));
        }

    -- all stations have their places
    pub all_grown : n ≤ count → Grown n source sink produced consumed place steps
    all_grown all =
        let have_marks = all_marked n m source sink marked count M.marking all in
        record {
          who = at M.who;
          by = at M.by;
          stations = M.stations;
          places = λ v h. omega (arith, M.seen v (have_marks v h), M.few);
          back = λ v h. M.back v (have_marks v h);
          reached = λ i some h. M.reached i some (omega arith);
        }
