-- The laws of a finish that is pushed along the queues out of a station.
use Prim.Native.Nat.{ℕ, suc, ◌+◌, ◌*◌, ◌/◌, ◌≤◌, ◌<◌}
use mathlib.Core.Path.{◌≡◌, refl, sym, ◌∙◌}
use mathlib.Core.List.{List}
use mathlib.Core.Logic.{◌⊎◌, inl, inr, ⊎_elim}
use native.Mathlib.Nat.{div-lt_iff_lt-mul}
use native.Mathlib.Omega.{arith}
use native.Mathlib.Decide.{ℕ_discrete}
use lib.ListN.{length, set, length-set}
use lib.Seq.{get_or-set_same, get_or-set_other}
use Rattle.lists.specs.Front.{at}
use Rattle.lists.proofs.StoreLaws.{after_store}
use Rattle.lists.proofs.Order.{order, lt_or_ge}
use Rattle.dataflow.specs.Counts.{sum}
use Rattle.dataflow.proofs.SumLaws.{sum_before}
use Rattle.chain.specs.Chain.{CountedChain}
use Rattle.chain.specs.declared.round.Round.{Round}
use Rattle.chain.specs.Thread.{FirstAt}
use Rattle.chain.proofs.ChainLaws.{count_few}
use Rattle.firing.specs.Walk.{Gives, first_token, taker_entry, Hands, Given, Pushes}

-- the copy that takes the token is one of the round's, and has its entry
pub taker_within : (token consumed from count : ℕ) → 1 ≤ consumed → token < count * consumed → from + count ≤ 256 → from + token / consumed < 256
taker_within token consumed from count some inside fits = let x = (div-lt_iff_lt-mul some).1 inside in omega (arith, x)

module _ (m : ℕ) (source sink produced consumed delay q : List ℕ) (v copy finish : ℕ) (before : List ℕ) where
  abbrev token : ℕ → ℕ
  token e = first_token produced delay copy e

  abbrev taker : ℕ → ℕ
  taker e = taker_entry sink produced consumed delay q copy e

  abbrev GivenBelow : (bound k x : ℕ) → Type 0
  GivenBelow bound k x = Given source sink produced consumed delay q v copy finish bound k x

  -- the queues out of v below e are pushed along, and e leaves v
  pub record PushedBelow (e : ℕ) (table : List ℕ) : Type 0 where
    pub within : e ≤ m
    pub goes : e < m → at source e ≡ v
    pub pushes : Pushes source sink produced consumed delay q v copy finish e before table

  module _ (e : ℕ) (h : e < m) {r : ℕ} (f : FirstAt m source (at source e) (suc e) r) {table : List ℕ} (b : PushedBelow e table) where
    given_still : (k x : ℕ) → (x ≡ at before k) ⊎ GivenBelow e k x → (x ≡ at before k) ⊎ GivenBelow r k x
    given_still k x (inl a) = inl a
    given_still k x (inr g) = inr (record { queue = g.queue; below = omega (arith, g.below, f.ahead); hands = g.hands; to = g.to; is = g.is })

    -- no queue out of v lies between e and the next
    between : (k : ℕ) → e < k → k < r → at source k ≡ v → ⊥
    between k gt l from = f.passed k gt l (from ∙ sym (b.goes h))

    -- a queue that doesn't hand the finish on, or hands it to a copy that has one as late
    push_pass : (Hands source sink produced consumed delay q v copy finish e → finish ≤ at table (taker e)) → PushedBelow r table
    push_pass as_late = record {
      within = f.within;
      goes = λ l. f.goes l ∙ b.goes h;
      pushes = record {
        long = b.pushes.long;
        rises = b.pushes.rises;
        reached = λ k l z. order k e (λ lt. b.pushes.reached k lt z) (λ eq. rw eq (as_late (rw eq at z))) (λ gt. absurd (between k gt l z.from));
        is = λ k. given_still k _ (b.pushes.is k);
      };
    }

    -- a queue that hands it on
    push_more : token e < at q (at sink e) * at consumed e → taker e < length table → at table (taker e) < finish → PushedBelow r (set table (taker e) finish)
    push_more inside room low = record {
      within = f.within;
      goes = λ l. f.goes l ∙ b.goes h;
      pushes = record {
        long = simp length-set b.pushes.long;
        rises = λ k. omega (arith, b.pushes.rises k, up k (ℕ_discrete k (taker e)));
        reached = reached;
        is = after_store table (taker e) finish room (λ k x. (x ≡ at before k) ⊎ GivenBelow r k x)
            (inr (record { queue = e; below = f.ahead; hands = record { from = b.goes h; inside = inside }; to = refl; is = refl })) (λ k n. given_still k _ (b.pushes.is k));
      };
    }
      where
        here : at (set table (taker e) finish) (taker e) ≡ finish
        here = get_or-set_same table (taker e) finish 0 room

        up : (k : ℕ) → Dec (k ≡ taker e) → at table k ≤ at (set table (taker e) finish) k
        up k (yes x) = rw (x, here) (omega arith)
        up k (no x) = rw (get_or-set_other table (taker e) k finish 0 x) (omega arith)

        reached : (k : ℕ) → k < r → Hands source sink produced consumed delay q v copy finish k → finish ≤ at (set table (taker e) finish) (taker k)
        reached k l z =
            order k e
            (λ lt. omega (arith, b.pushes.reached k lt z, up (taker k) (ℕ_discrete (taker k) (taker e))))
            (λ eq. rw (eq, here) (omega arith))
            (λ gt. absurd (between k gt l z.from))

    -- either, in the words of the code
    pub push_given : {table' : List ℕ} (token' rate from count : ℕ) → token' ≡ token e → rate ≡ at consumed e → from ≡ sum (at sink e) (at q) → count ≡ at q (at sink e)
        → 1 ≤ at consumed e → from + count ≤ length table → Gives token' rate from count finish table table' → PushedBelow r table'
    push_given {table'} token' rate from count et er ef ec some fits g =
        ⊎_elim inside (λ l. rw (g'.beyond l) (push_pass (λ z. absurd (omega (arith, z.inside))))) (lt_or_ge (token e) (at q (at sink e) * at consumed e))
      where
        g' : Gives (token e) (at consumed e) (sum (at sink e) (at q)) (at q (at sink e)) finish table table'
        g' = rw (et, er, ef, ec) at g

        inside : token e < at q (at sink e) * at consumed e → PushedBelow r table'
        inside l =
            let x = (div-lt_iff_lt-mul some).1 l in
            ⊎_elim (λ a. rw (g'.given l a) (push_more l (omega arith) a)) (λ a. rw (g'.as_late a) (push_pass (λ z. a))) (lt_or_ge (at table (taker e)) finish)

-- the copies of a station have their entries in the table
pub copies_fit : {n m total : ℕ} {source sink produced consumed q : List ℕ} → CountedChain n m source sink produced consumed q total → (v : ℕ) → v < n → sum v (at q) + at q v ≤ 256
copies_fit {n} {q = q} c v h = omega (arith, sum_before (at q) v n h, c.adds, c.few)

pub few_copies : (r : Round) (v : ℕ) → at r.q v ≤ 256
few_copies r v = count_few r.counted v

-- from its base on
pub placed : (r : Round) (v : ℕ) → v < r.chain.n → at r.base v + at r.q v ≤ 256
placed r v h = omega (arith, copies_fit r.counted v h, r.begins.is v)
