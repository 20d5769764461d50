-- No second answer meets a contract.
use Prim.Native.Nat.{ℕ}
use mathlib.Core.Path.{◌≡◌, refl, sym, ap, ◌∙◌}
use mathlib.Core.Bool.{Bool}
use mathlib.Core.List.{List, []}
use mathlib.Core.Logic.{⊎_elim}
use native.Mathlib.Omega.{arith}
use lib.Seq.{ext_get_or}
use Rattle.std.specs.Prelude.{Option, Some, None}
use Rattle.lists.specs.Front.{at}
use Rattle.lists.specs.Test.{Tells}
use Rattle.lists.proofs.LowestLaws.{first_failing_once}
use Rattle.lists.proofs.Order.{lt_or_ge}
use Rattle.lists.proofs.TestLaws.{tells_once, differ}
use Rattle.dataflow.specs.Counts.{sum}
use Rattle.dataflow.proofs.CountLaws.{counts_once}
use Rattle.counts.specs.declared.Counted.{Counted}
use Rattle.counts.specs.declared.Crossing.{Crossing}
use Rattle.counts.specs.Joining.{AllJoined, mark, Beside, Crosses}
use Rattle.chain.specs.Chain.{net_of}
use Rattle.counts.specs.Smallest.{SmallestAre, Smallest}

-- of the queue that leads from marked stations to others
module _ (m : ℕ) (source sink : List ℕ) (marked : List Bool) where
  module _ (c c' : Crossing) (p : Crosses m source sink marked (Some c)) (q : Crosses m source sink marked (Some c')) where
    same_queue : c.queue ≡ c'.queue
    same_queue = let e = first_failing_once _ _ p.lowest q.lowest in cc

    same_end : {near far : List ℕ} → Beside near far marked c.station c.queue → Beside near far marked c'.station c'.queue → c.station ≡ c'.station
    same_end {near} a b = a.end ∙ ap (at near) same_queue ∙ sym b.end

    -- one end is marked and the other isn't
    other_end : {near far : List ℕ} → Beside near far marked c.station c.queue → Beside far near marked c'.station c'.queue → c.station ≡ c'.station
    other_end {near} a b =
        absurd (differ b.known (ap (mark marked) (sym (a.end ∙ ap (at near) same_queue)) ∙ p.leads.new))

    same_station : c.station ≡ c'.station
    same_station =
        ⊎_elim
        (λ a. ⊎_elim (λ b. same_end a b) (λ b. other_end a b) q.leads.beside)
        (λ a. ⊎_elim (λ b. other_end a b) (λ b. same_end a b) q.leads.beside)
        p.leads.beside

    same_crossing : c ≡ c'
    same_crossing = λ i. record { queue = same_queue i; station = same_station i }

  pub lowest_crossing_unique : (r r' : Option Crossing) → Crosses m source sink marked r → Crosses m source sink marked r' → r ≡ r'
  lowest_crossing_unique None None p q = refl
  lowest_crossing_unique None (Some c) p q = absurd (let e = first_failing_once _ _ p.lowest q.lowest in cc)
  lowest_crossing_unique (Some c) None p q = absurd (let e = first_failing_once _ _ p.lowest q.lowest in cc)
  lowest_crossing_unique (Some c) (Some c') p q = ap Some (same_crossing c c' p q)

-- of the test whether the stations are joined
pub joined_unique : (n m : ℕ) (source sink : List ℕ) (r r' : Bool) → Tells r (AllJoined n m source sink) → Tells r' (AllJoined n m source sink) → r ≡ r'
joined_unique n m source sink = tells_once

module _ (n m : ℕ) (source sink produced consumed : List ℕ) where
  -- counts that fit leave no answer that there are none
  clash : (c : Counted) → SmallestAre n m source sink produced consumed c → Smallest n m source sink produced consumed None → ⊥
  clash c p none = none (at c.q) p.counts.balances (omega (arith, p.total, p.most))

  same_counts : (c c' : Counted) → SmallestAre n m source sink produced consumed c → SmallestAre n m source sink produced consumed c' → c ≡ c'
  same_counts c c' p q =
      let list =
      ext_get_or 0 c.q c'.q (p.entries ∙ sym q.entries)
      (λ v h. ⊎_elim (counts_once (net_of n m source sink produced consumed [] []) _ _ p.counts q.counts v) (λ b. p.beyond v b ∙ sym (q.beyond v b)) (lt_or_ge v n)) in
      let total = p.total ∙ ap (λ (l : List ℕ). sum n (at l)) list ∙ sym q.total in
      λ i. record { total = total i; q = list i }

  -- of the counts
  pub counts_unique : (r r' : Option Counted) → Smallest n m source sink produced consumed r → Smallest n m source sink produced consumed r' → r ≡ r'
  counts_unique None None p q = refl
  counts_unique None (Some c) p q = absurd (clash c q p)
  counts_unique (Some c) None p q = absurd (clash c p q)
  counts_unique (Some c) (Some c') p q = ap Some (same_counts c c' p q)
