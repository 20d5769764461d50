-- The laws of the threads through the queues at each station.
use Prim.Native.Nat.{ℕ, suc, ◌≤◌, ◌<◌}
use mathlib.Core.Path.{◌≡◌, refl, sym, ap, ◌∙◌}
use mathlib.Core.List.{List}
use mathlib.Core.Logic.{⊎_elim}
use native.Mathlib.Omega.{arith}
use native.Mathlib.Decide.{ℕ_discrete}
use lib.ListN.{length, set}
use lib.Seq.{get_or-set_same, get_or-set_other}
use Rattle.lists.specs.Front.{at}
use Rattle.lists.proofs.Order.{order, lt_or_ge}
use Rattle.chain.specs.Thread.{FirstAt, Threads}

-- the threads through the queues from `from` on
pub record Threading (n m : ℕ) (ends head next : List ℕ) (from : ℕ) : Type 0 where
  pub first : (v : ℕ) → v < n → FirstAt m ends v from (at head v)
  pub more : (e : ℕ) → from ≤ e → e < m → FirstAt m ends (at ends e) (suc e) (at next e)
  pub no_queue : (e : ℕ) → m ≤ e → e < 64 → at next e ≡ m

-- no queue is threaded yet
pub none_threaded : (n m : ℕ) (ends head next : List ℕ) → ((v : ℕ) → v < n → at head v ≡ m) → ((e : ℕ) → m ≤ e → e < 64 → at next e ≡ m) → Threading n m ends head next m
none_threaded n m ends head next h rest =
    record {
      first = λ v b. rw (h v b) (record { ahead = omega arith; within = omega arith; passed = λ e l k. absurd (omega arith); goes = λ l. absurd (omega arith) });
      more = λ e l k. absurd (omega arith);
      no_queue = rest;
    }

module _ (n m : ℕ) (ends head next : List ℕ) (e : ℕ) (h : e < m) (s : at ends e < n) (t : Threading n m ends head next (suc e)) where
  -- queue e is put at the head of its station's thread
  first_threaded : n ≤ length head → (v : ℕ) → v < n → FirstAt m ends v e (at (set head (at ends e) e) v)
  first_threaded room v b = go (ℕ_discrete v (at ends e))
    where
      go : Dec (v ≡ at ends e) → FirstAt m ends v e (at (set head (at ends e) e) v)
      go (yes x) =
          rw (x, get_or-set_same head (at ends e) e 0 (omega arith))
          (record { ahead = omega arith; within = omega arith; passed = λ k l a. absurd (omega arith); goes = λ l. refl })
      go (no x) =
          let f = t.first v b in
          rw (get_or-set_other head (at ends e) v e 0 x)
          (record {
            ahead = omega (arith, f.ahead);
            within = f.within;
            passed = λ k l a z. order k e (λ lt. omega arith) (λ eq. x (sym z ∙ ap (at ends) eq)) (λ gt. f.passed k (omega arith) a z);
            goes = f.goes;
          })

  more_threaded : m ≤ length next → (k : ℕ) → e ≤ k → k < m → FirstAt m ends (at ends k) (suc k) (at (set next e (at head (at ends e))) k)
  more_threaded room k l b = go (ℕ_discrete k e)
    where
      go : Dec (k ≡ e) → FirstAt m ends (at ends k) (suc k) (at (set next e (at head (at ends e))) k)
      go (yes x) = rw (x, get_or-set_same next e (at head (at ends e)) 0 (omega arith)) (t.first (at ends e) s)
      go (no x) = rw (get_or-set_other next e k (at head (at ends e)) 0 x) (t.more k (omega arith) b)

  pub one_more_threaded : n ≤ length head → m ≤ length next → Threading n m ends (set head (at ends e) e) (set next e (at head (at ends e))) e
  one_more_threaded room room' = record {
    first = first_threaded room;
    more = more_threaded room';
    no_queue = λ k l b. get_or-set_other next e k (at head (at ends e)) 0 (λ x. omega arith) ∙ t.no_queue k l b;
  }

-- all queues are threaded, and none ends at a station from n on
pub all_threaded : (n k m : ℕ) (ends head next : List ℕ) → n ≤ k → ((e : ℕ) → e < m → at ends e < n) → Threading k m ends head next 0 → k ≡ 32 → Threads n m ends head next
all_threaded n k m ends head next few enters t wide = record {
  first = λ v h. t.first v (omega arith);
  more = λ e h. t.more e (omega arith) h;
  no_station = λ v h b.
      let f = t.first v (omega arith) in
      ⊎_elim (λ l. absurd (omega (arith, enters (at head v) l, f.goes l))) (λ l. omega (arith, f.within)) (lt_or_ge (at head v) m);
  no_queue = t.no_queue;
}
