-- Queue by queue: what the ways say of the balance.
use Prim.Native.Nat.{ℕ, ◌*◌, ◌≤◌, ◌<◌}
use mathlib.Core.Path.{◌≡◌, refl, sym}
use mathlib.Core.Bool.{Bool, true, false}
use mathlib.Core.List.{List, []}
use mathlib.Core.Logic.{⊎_elim}
use native.Mathlib.Omega.{arith}
use Rattle.std.specs.Prelude.{Option, Some, None}
use Rattle.std.specs.Option.{MatchOption}
use Rattle.lists.specs.Front.{at}
use Rattle.lists.specs.Lowest.{FirstFailing}
use Rattle.lists.proofs.LowestLaws.{found, found_none}
use Rattle.dataflow.specs.Net.{Net}
use Rattle.dataflow.specs.Refusals.{BalancesTo}
use Rattle.dataflow.proofs.NumberLaws.{number_of_lem, number_is}
use Rattle.chain.specs.Chain.{ChainFits, net_of}
use Rattle.balance.specs.declared.way.Step.{Step}
use Rattle.balance.specs.Way.{step, Steps, BalancesStep, OnWay, Agrees}
use Rattle.balance.specs.Tree.{Grown, Hangs}
use Rattle.balance.specs.Spoiled.{Balanceable}
use Rattle.balance.proofs.VectorLaws.{below_exists}
use Rattle.balance.proofs.WayLaws.{LowStep, low_ends, on_way_low}

module _ (source sink produced consumed place : List ℕ) (steps : List Step) where
  -- the answer for queue e
  abbrev pub AgreesAt : (e : ℕ) (r : Bool) → Type 0
  AgreesAt e r = Agrees steps (at place (at source e)) (at place (at sink e)) (at produced e) (at consumed e) r

module _ (n m : ℕ) (source sink produced consumed : List ℕ) (C : ChainFits n m source sink produced consumed) (place : List ℕ) (steps : List Step) (S : Steps steps) (G : Grown n source sink produced consumed place steps) where
  abbrev net : Net
  net = net_of n m source sink produced consumed [] []

  -- the steps between the ends of queue e were reached by queues no higher than it
  steps_low : (e : ℕ) → e < m → (i : ℕ) → OnWay steps (at place (at source e)) (at place (at sink e)) i → LowStep steps S G e i
  steps_low e h i w =
      let u = C.leaves e h in
      let v = C.enters e h in
      on_way_low steps S G e _ _ i C.few (G.places _ u) (G.places _ v) (low_ends steps S G e u v) w

  -- where the ways of queues 0 to e all agree, a vector that balances the tree balances these queues
  pub all_agree : (e : ℕ) → ((k : ℕ) → k ≤ e → k < m → AgreesAt source sink produced consumed place steps k true) → Balanceable n m source sink produced consumed e
  all_agree e told =
      let B = below_exists steps S 31 (omega arith) in
      record {
        vector = λ v. B.y (at place v);
        balances = record {
          positive = λ v h. B.positive (at place v);
          balanced = λ q place has h.
              ((told q.0 (omega (arith, number_is m q place has)) q.1).tells B.y B.positive
              (λ i w. let s = steps_low q.0 q.1 i w in B.balanced i s.some (omega (arith, s.within, C.few)))).holds refl;
        };
      }

  module _ (e : ℕ) (x : ℕ → ℕ) (B : BalancesTo net e x) where
    -- x balances a step that was reached by a queue no higher than e
    module _ {near_end far_end near_rate far_rate : List ℕ} (near_station : (k : ℕ) → k < m → at near_end k < n) (far_station : (k : ℕ) → k < m → at far_end k < n) where
      hung : (k i : ℕ) → k < m → Hangs near_end far_end near_rate far_rate place steps k i → x (at near_end k) * at near_rate k ≡ x (at far_end k) * at far_rate k → BalancesStep steps (λ j. x (G.who j)) i
      hung k i h H b =
          let u : G.who i ≡ at near_end k = rw (← H.own) (G.back (at near_end k) (near_station k h)) in
          let v : G.who (step steps i).up ≡ at far_end k = rw (← H.up) (G.back (at far_end k) (far_station k h)) in
          rw (u, v, H.near, H.far) b

    balanced : (k : ℕ) (h : k < m) → k ≤ e → x (at source k) * at produced k ≡ x (at sink k) * at consumed k
    balanced k h l = B.balanced (k, h) k (number_of_lem m k h) l

    balances_step : e < m → (i : ℕ) → LowStep steps S G e i → BalancesStep steps (λ j. x (G.who j)) i
    balances_step h i s =
        let k : G.by i < m = omega (arith, s.low) in
        let b = balanced (G.by i) k s.low in
        ⊎_elim
        (λ H. hung C.leaves C.enters (G.by i) i k H b)
        (λ H. hung C.enters C.leaves (G.by i) i k H (sym b))
        (G.reached i s.some s.within).hangs

  -- where the way of queue e doesn't, no vector balances queues 0 to e
  pub none_balances : (e : ℕ) → e < m → AgreesAt source sink produced consumed place steps e false → Balanceable n m source sink produced consumed e → ⊥
  none_balances e h told A =
      let x = A.vector in
      (told.tells (λ j. x (G.who j)) (λ j. A.balances.positive (G.who j) (G.stations j))
      (λ i w. balances_step e x A.balances h i (steps_low e h i w))).fails refl
      (rw (G.back (at source e) (C.leaves e h), G.back (at sink e) (C.enters e h)) (balanced e x A.balances e h (omega arith)))

  -- the first way that doesn't agree is that of the queue that spoils the balance
  pub spoiled_by : (r : Option ℕ) → MatchOption r ((k : ℕ) → 0 ≤ k → k < m → AgreesAt source sink produced consumed place steps k true) (λ e. (0 ≤ e) × (e < m) × AgreesAt source sink produced consumed place steps e false × ((k : ℕ) → 0 ≤ k → k < e → AgreesAt source sink produced consumed place steps k true)) → FirstFailing (Balanceable n m source sink produced consumed) m r
  spoiled_by None h = found_none (λ k b. all_agree k (λ j l a. h j (omega arith) a))
  spoiled_by (Some e) h = found e h.1 (λ k b. all_agree k (λ j l a. h.3 j (omega arith) (omega arith))) (none_balances e h.1 h.2)
