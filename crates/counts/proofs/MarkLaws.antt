-- The marking of the stations that are joined to station 0.
use Prim.Native.Nat.{ℕ, zero, suc, ◌+◌, ◌≤◌, ◌<◌}
use mathlib.Core.Path.{◌≡◌, refl, sym, ap, ◌∙◌}
use mathlib.Core.Bool.{Bool, true, false, cond}
use mathlib.Core.List.{List}
use mathlib.Core.Logic.{⊎_elim}
use native.Mathlib.Omega.{arith}
use native.Mathlib.Decide.{ℕ_discrete}
use lib.ListN.{length, set, replicate, length-set, length-replicate}
use lib.Seq.{get_or-set_same, get_or-set_other}
use Rattle.std.specs.Prelude.{Some, None}
use Rattle.lists.proofs.TestLaws.{differ}
use Rattle.dataflow.specs.Counts.{sum}
use Rattle.dataflow.specs.Refusals.{Joined, here, along, against}
use Rattle.dataflow.proofs.SumLaws.{sum_same, sum_none, sum_lt}
use Rattle.counts.specs.declared.Crossing.{Crossing}
use Rattle.counts.specs.Joining.{Ends, ends_of, AllJoined, mark, OneSide, Crosses}
use Rattle.counts.proofs.SumLaws.{sum_ones, sum_but_one}
use Rattle.counts.proofs.JoinLaws.{joined_through}

-- 1 for a mark
abbrev pub tally : Bool → ℕ
tally b = cond b 1 0

-- what a mark holds at its place, and each other at its own
after_mark : (marked : List Bool) (v : ℕ) → v < length marked → (P : ℕ → Bool → Type 0) → P v true → ((w : ℕ) → (w ≡ v → ⊥) → P w (mark marked w)) → (w : ℕ) → P w (mark (set marked v true) w)
after_mark marked v h P new old w =
    elim (ℕ_discrete w v) [
      | yes e ↦ rw (e, get_or-set_same marked v true false h) new
      | no n ↦ rw (get_or-set_other marked v w true false n) (old w n)
    ]

-- so many stations are marked, station 0 and none that is not joined to it
pub record Marking (n m : ℕ) (source sink : List ℕ) (marked : List Bool) (count : ℕ) : Type 0 where
  pub long : length marked ≡ 32
  pub first : mark marked 0 ≡ true
  pub joins : (v : ℕ) → mark marked v ≡ true → Joined (ends_of n m source sink) 0 v
  pub counted : count ≡ sum n (λ v. tally (mark marked v))

pub no_mark : (k v : ℕ) → mark (replicate k false) v ≡ false
no_mark zero v = refl
no_mark (suc k) zero = refl
no_mark (suc k) (suc v) = no_mark k v

tally_most : (b : Bool) → tally b ≤ 1
tally_most true = omega arith
tally_most false = omega arith

pub not_false : (b : Bool) → (b ≡ false → ⊥) → b ≡ true
not_false true k = refl
not_false false k = absurd (k refl)

module _ (n m : ℕ) (source sink : List ℕ) where
  pub mark_first : 1 ≤ n → Marking n m source sink (set (replicate 32 false) 0 true) 1
  mark_first some =
      let none : List Bool = replicate 32 false in
      let h : 0 < length none = omega (arith, length-replicate {A = Bool} 32 false) in
      let same = sum_but_one (λ v. tally (mark (set none 0 true) v)) (λ v. 0) 0 (λ w d. ap tally (get_or-set_other none 0 w true false d ∙ no_mark 32 w)) n some in
      record {
        long = length-set none 0 true ∙ length-replicate {A = Bool} 32 false;
        first = get_or-set_same none 0 true false h;
        joins = after_mark none 0 h (λ w b. b ≡ true → Joined (ends_of n m source sink) 0 w) (λ e. here) (λ w k e. absurd (differ e (no_mark 32 w)));
        counted = omega (arith, same, sum_none n);
      }

  module _ (marked : List Bool) (count : ℕ) (M : Marking n m source sink marked count) where
    module _ (c : Crossing) (X : Crosses m source sink marked (Some c)) where
      pub crossing_queue : c.queue < m
      crossing_queue = X.lowest.inside c.queue refl

      joined_next : Joined (ends_of n m source sink) 0 c.station
      joined_next =
          ⊎_elim
          (λ b. rw b.end (against (c.queue, crossing_queue) (M.joins _ b.known)))
          (λ b. rw b.end (along (c.queue, crossing_queue) (M.joins _ b.known)))
          X.leads.beside

      -- the new station is one of n
      pub new_station : Ends n m source sink → c.station < n
      new_station E =
          ⊎_elim
          (λ b. rw b.end (E.leaves c.queue crossing_queue))
          (λ b. rw b.end (E.enters c.queue crossing_queue))
          X.leads.beside

      pub mark_next : Ends n m source sink → Marking n m source sink (set marked c.station true) (count + 1)
      mark_next E =
          let v = c.station in
          let s = new_station E in
          let l : v < length marked = omega (arith, M.long, E.few) in
          let same = sum_but_one (λ w. tally (mark (set marked v true) w)) (λ w. tally (mark marked w)) v (λ w d. ap tally (get_or-set_other marked v w true false d)) n s in
          record {
            long = length-set marked v true ∙ M.long;
            first = after_mark marked v l (λ w b. w ≡ 0 → b ≡ true) (λ e. refl) (λ w k e. rw e M.first) 0 refl;
            joins = after_mark marked v l (λ w b. b ≡ true → Joined (ends_of n m source sink) 0 w) (λ e. joined_next) (λ w k. M.joins w);
            counted = omega (arith, same, ap tally X.leads.new, ap tally (get_or-set_same marked v true false l), M.counted);
          }

    -- where as many are marked as there are, all are
    pub all_marked : n ≤ count → (w : ℕ) → w < n → mark marked w ≡ true
    all_marked all w h =
        not_false _
        (λ f.
        omega
        (arith, sum_lt n (λ v. tally (mark marked v)) (λ v. 1) (λ v. tally_most (mark marked v)) w h (omega (arith, ap tally f)), sum_ones n, M.counted))

    pub all_joined : n ≤ count → AllJoined n m source sink
    all_joined all u v a b = joined_through (ends_of n m source sink) (M.joins u (all_marked all u a)) (M.joins v (all_marked all v b))

    -- where no queue has just one marked end, all that are joined have the same mark
    same_mark : {u v : ℕ} → ((e : ℕ) → e < m → OneSide source sink marked e) → Joined (ends_of n m source sink) u v → mark marked u ≡ mark marked v
    same_mark none here = refl
    same_mark none (along e j) = same_mark none j ∙ none e.0 e.1
    same_mark none (against e j) = same_mark none j ∙ sym (none e.0 e.1)

    pub not_joined : 1 ≤ n → count < n → Crosses m source sink marked None → AllJoined n m source sink → ⊥
    not_joined some fewer X all =
        omega
        (arith, sum_same n (λ v. tally (mark marked v)) (λ v. 1) (λ w k. ap tally (sym (same_mark X.lowest.lowest.below (all 0 w some k)) ∙ M.first)), sum_ones n, M.counted)
