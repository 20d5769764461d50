-- The laws of rooms that are lifted along the thread of the queues out of a station.
use Prim.Native.Nat.{ℕ, suc, ◌≤◌, ◌<◌, max}
use mathlib.Core.Path.{◌≡◌, sym, ◌∙◌}
use mathlib.Core.List.{List}
use native.Mathlib.Omega.{arith}
use lib.ListN.{length, set}
use Rattle.lists.specs.Front.{at}
use Rattle.lists.proofs.Order.{order}
use Rattle.chain.specs.Thread.{FirstAt}
use Rattle.rooms.specs.Lifted.{Lifted, OutOf}
use Rattle.rooms.proofs.LiftedLaws.{lifted_more}

module _ (m : ℕ) (source : List ℕ) (v : ℕ) (P : ℕ → ℕ → Type 0) (before : List ℕ) where
  -- the queues out of v below e are lifted, and e is the next of them
  pub record LiftedBelow (e : ℕ) (now : List ℕ) : Type 0 where
    pub within : e ≤ m
    pub goes : e < m → at source e ≡ v
    pub lifted : Lifted (λ k. (k < e) × OutOf m source v k) P before now

  pub below_more : {e r : ℕ} {now : List ℕ} (x y : ℕ) → e < m → e < length now → P e x → y ≡ max (at now e) x → FirstAt m source (at source e) (suc e) r → LiftedBelow e now → LiftedBelow r (set now e y)
  below_more {e} {r} x y h b p is f z =
      let out = z.goes h in
      record {
        within = f.within;
        goes = λ l. f.goes l ∙ out;
        lifted = lifted_more e x y b (λ a. omega (arith, a.0)) (omega (arith, f.ahead), (h, out)) (λ k a. (omega (arith, a.0, f.ahead), a.1))
            (λ k a w. (order k e (λ lt. lt) (λ eq. absurd (w eq)) (λ gt. absurd (f.passed k gt a.0 (a.1.1 ∙ sym out))), a.1)) p is z.lifted;
      }
