-- Ready stations and firing lists can be decided.
use mathlib.Core.Path.{◌≡◌}
use mathlib.Core.List.{List, [], ◌∷◌}
use mathlib.Core.Logic.{◌⊎◌, inl, inr}
use Prim.Native.Nat.{ℕ, zero, suc, ◌≤◌, ◌<◌}
use native.Mathlib.Omega.{arith}
use native.Mathlib.Decide.{ℕ_discrete, dec_le, dec_lt}
use lib.ListN.{length}
use Rattle.dataflow.specs.Net.{Net, Sound}
use Rattle.dataflow.specs.Runs.{State, Ready, fire}
use Rattle.dataflow.specs.Lists.{Next, FiringList, complete, next}
use Rattle.dataflow.proofs.Below.{Each, each_in, each_of, Upto, upto, upto_of}

-- what is decided with yes holds
abbrev pub Yes : {X : Type 0} → Dec X → Type 0
Yes (yes x) = Unit {0}
Yes (no x) = ⊥

pub by_yes : {X : Type 0} (w : Dec X) → Yes w → X
by_yes (yes x) h = x
by_yes (no x) h = absurd h

abbrev pub both : {X Y : Type 0} → Dec X → Dec Y → Dec (X × Y)
both (yes x) (yes y) = yes (x, y)
both (yes x) (no y) = no (λ h. y h.1)
both (no x) w = no (λ h. x h.0)

abbrev pub implied : {X Y : Type 0} → Dec X → Dec Y → Dec (X → Y)
implied (yes x) (yes y) = yes (λ h. y)
implied (yes x) (no y) = no (λ h. y (h x))
implied (no x) w = yes (λ h. absurd (x h))

abbrev pub denied : {X : Type 0} → Dec X → Dec (¬ X)
denied (yes x) = no (λ h. h x)
denied (no x) = yes x

abbrev pub equal : {X Y : Type 0} → (X → Y) → (Y → X) → Dec X → Dec Y
equal f g (yes x) = yes (f x)
equal f g (no x) = no (λ y. x (g y))

abbrev pub each_dec : {A : Type 0} (P : A → Type 0) → ((a : A) → Dec (P a)) → (l : List A) → Dec (Each P l)
each_dec P w [] = yes tt
each_dec P w (a ∷ l) = both (w a) (each_dec P w l)

abbrev pub upto_dec : (P : ℕ → Type 0) → ((v : ℕ) → Dec (P v)) → (n : ℕ) → Dec (Upto P n)
upto_dec P w zero = yes tt
upto_dec P w (suc n) = both (upto_dec P w n) (w n)

-- Some queue into v has fewer tokens than v takes.
pub record Lacking (G : Net) (S : State G) (v : ℕ) : Type 0 where
  pub queue : G.Queue
  pub to : G.sink queue ≡ v
  pub lacks : length (S.holds queue) < G.consumed queue

module _ (G : Net) (W : Sound G) where
  abbrev enough : (S : State G) (v : ℕ) → G.Queue → Type 0
  enough S v e = G.sink e ≡ v → G.consumed e ≤ length (S.holds e)

  unfoldable pub ready_dec : (S : State G) (v : ℕ) → Dec (Ready G S v)
  ready_dec S v = equal (λ h e. each_in (enough S v) (W.named e) h) (λ r. each_of (enough S v) r G.queues)
      (each_dec (enough S v) (λ e. implied (ℕ_discrete (G.sink e) v) (dec_le (G.consumed e) (length (S.holds e)))) G.queues)

  pub ready_or_lacking : (S : State G) (v : ℕ) → Ready G S v ⊎ Lacking G S v
  ready_or_lacking S v = go (look G.queues)
    where
      look : (l : List G.Queue) → Each (enough S v) l ⊎ Lacking G S v
      look [] = inl tt
      look (e ∷ l) = test (ℕ_discrete (G.sink e) v) (dec_le (G.consumed e) (length (S.holds e))) (look l)
        where
          test : Dec (G.sink e ≡ v) → Dec (G.consumed e ≤ length (S.holds e)) → Each (enough S v) l ⊎ Lacking G S v → Each (enough S v) (e ∷ l) ⊎ Lacking G S v
          test (yes to) (no n) r = inr (record { queue = e; to = to; lacks = omega arith })
          test (yes to) (yes y) (inl r) = inl ((λ t. y), r)
          test (yes to) (yes y) (inr r) = inr r
          test (no n) w (inl r) = inl ((λ t. absurd (n t)), r)
          test (no n) w (inr r) = inr r

      go : Each (enough S v) G.queues ⊎ Lacking G S v → Ready G S v ⊎ Lacking G S v
      go (inl h) = inl (λ e. each_in (enough S v) (W.named e) h)
      go (inr h) = inr h

  module _ (wanted : ℕ → ℕ) where
    abbrev passed : (S : State G) → ℕ → Type 0
    passed S w = S.fired w < wanted w → ¬ Ready G S w

    unfoldable pub next_dec : (S : State G) (v : ℕ) → Dec (Next G wanted S v)
    unfolding ready_dec
    next_dec S v = equal
        (λ h. record { station = h.0; left = h.1.0; ready = h.1.1.0; lowest = upto (passed S) v h.1.1.1 })
        (λ n. (n.station, (n.left, (n.ready, upto_of (passed S) v n.lowest))))
        (both (dec_lt v G.stations) (both (dec_lt (S.fired v) (wanted v)) (both (ready_dec S v)
        (upto_dec (passed S) (λ w. implied (dec_lt (S.fired w) (wanted w)) (denied (ready_dec S w))) v))))

    unfoldable pub list_dec : (S : State G) (l : List ℕ) → Dec (FiringList G wanted S l)
    unfolding next_dec
    list_dec S [] = equal
        (λ h. complete (upto (λ v. S.fired v ≡ wanted v) G.stations h))
        (λ l. upto_of (λ v. S.fired v ≡ wanted v) G.stations (finished l))
        (upto_dec (λ v. S.fired v ≡ wanted v) (λ v. ℕ_discrete (S.fired v) (wanted v)) G.stations)
      where
        finished : FiringList G wanted S [] → (v : ℕ) → v < G.stations → S.fired v ≡ wanted v
        finished (complete h) = h
    list_dec S (v ∷ l) = equal (λ h. next h.0 h.1) taken (both (next_dec S v) (list_dec (fire G v S) l))
      where
        taken : FiringList G wanted S (v ∷ l) → Next G wanted S v × FiringList G wanted (fire G v S) l
        taken (next n t) = (n, t)
