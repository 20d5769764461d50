-- The walk from two places of a tree down to where they meet.
use Prim.Native.Nat.{ℕ, ◌*◌, ◌≤◌, ◌<◌}
use mathlib.Core.Path.{◌≡◌, sym, ap}
use mathlib.Core.Bool.{Bool}
use mathlib.Core.List.{List}
use native.Mathlib.Nat.{one-le-mul, eq_of_mul-eq-mul_left}
use native.Mathlib.Omega.{arith}
use Rattle.lists.specs.Test.{Tells}
use Rattle.limbs.specs.Value.{limit}
use Rattle.balance.specs.declared.way.Step.{Step}
use Rattle.balance.specs.Way.{step, RateFits, StepFits, Steps, BalancesStep, OnWay, below_first, below_second, first, second, Agrees}
use Rattle.balance.proofs.ProductLaws.{Spare, spare_first, spare_next, spare_fits}

-- one more step, with these numbers at the places and these rates
one_more : (here there up left right near far u v : ℕ) → here * left * v ≡ there * right * u → there * near ≡ up * far → here * (left * near) * v ≡ up * (right * far) * u
one_more here there up left right near far u v h s =
    let a = ap (λ (y : ℕ). y * near) h in
    let b = ap (λ (y : ℕ). y * (right * u)) s in
    omega arith

-- where both products are the same, so are both sides of the queue, and the other way round
meet_equal : (here left right u v : ℕ) → 1 ≤ here → 1 ≤ left → left ≡ right → here * left * v ≡ here * right * u → u ≡ v
meet_equal here left right u v some more e h = eq_of_mul-eq-mul_left (here * left) (one-le-mul some more) u v (rw (← e) at (sym h))

meet_unequal : (here left right u v : ℕ) → 1 ≤ here → 1 ≤ u → u ≡ v → here * left * v ≡ here * right * u → left ≡ right
meet_unequal here left right u v some more e h = eq_of_mul-eq-mul_left (here * u) (one-le-mul some more) left right (let a = ap (λ (y : ℕ). here * left * y) e in omega arith)

module _ (steps : List Step) (a b produced consumed : ℕ) where
  -- at places i and j, with the products so far: every step from there is on the whole way, and the numbers at both places differ as the products do
  pub record Walked (i j left right : ℕ) : Type 0 where
    pub first_place : i < 32
    pub second_place : j < 32
    pub some : 1 ≤ left
    pub left_first : Spare left i
    pub left_second : Spare left j
    pub right_first : Spare right i
    pub right_second : Spare right j
    pub inside : (k : ℕ) → OnWay steps i j k → OnWay steps a b k
    pub ratio : (y : ℕ → ℕ) → ((k : ℕ) → OnWay steps a b k → BalancesStep steps y k) → y i * left * (y b * consumed) ≡ y j * right * (y a * produced)

  pub walk_begin : a < 32 → b < 32 → RateFits produced → RateFits consumed → Walked a b produced consumed
  walk_begin h k p c = record {
    first_place = h;
    second_place = k;
    some = p.some;
    left_first = spare_first produced a p.most h;
    left_second = spare_first produced b p.most k;
    right_first = spare_first consumed a c.most h;
    right_second = spare_first consumed b c.most k;
    inside = λ k w. w;
    ratio = λ y s. omega arith;
  }

module _ {steps : List Step} {a b produced consumed i j left right : ℕ} (S : Steps steps) (W : Walked steps a b produced consumed i j left right) where
  module _ (h : i < j) where
    second_step : StepFits (step steps j) j
    second_step = S.fits j (omega arith) W.second_place

    pub left_second_fits : left * (step steps j).near < limit
    left_second_fits = spare_fits left (step steps j).near j W.left_second (omega arith) second_step.near_rate.most

    pub right_second_fits : right * (step steps j).far < limit
    right_second_fits = spare_fits right (step steps j).far j W.right_second (omega arith) second_step.far_rate.most

    pub walk_second : Walked steps a b produced consumed i (step steps j).up (left * (step steps j).near) (right * (step steps j).far)
    walk_second =
        let s = second_step in
        record {
          first_place = W.first_place;
          second_place = omega (arith, s.lower, W.second_place);
          some = one-le-mul W.some s.near_rate.some;
          left_first = spare_next left (step steps j).near j i W.left_second h s.near_rate.most;
          left_second = spare_next left (step steps j).near j (step steps j).up W.left_second s.lower s.near_rate.most;
          right_first = spare_next right (step steps j).far j i W.right_second h s.far_rate.most;
          right_second = spare_next right (step steps j).far j (step steps j).up W.right_second s.lower s.far_rate.most;
          inside = λ k w. W.inside k (below_second h w);
          ratio = λ y f. one_more _ _ _ _ _ _ _ _ _ (W.ratio y f) (f j (W.inside j (second h)));
        }

  module _ (h : j < i) where
    first_step : StepFits (step steps i) i
    first_step = S.fits i (omega arith) W.first_place

    pub left_first_fits : left * (step steps i).far < limit
    left_first_fits = spare_fits left (step steps i).far i W.left_first (omega arith) first_step.far_rate.most

    pub right_first_fits : right * (step steps i).near < limit
    right_first_fits = spare_fits right (step steps i).near i W.right_first (omega arith) first_step.near_rate.most

    pub walk_first : Walked steps a b produced consumed (step steps i).up j (left * (step steps i).far) (right * (step steps i).near)
    walk_first =
        let s = first_step in
        record {
          first_place = omega (arith, s.lower, W.first_place);
          second_place = W.second_place;
          some = one-le-mul W.some s.far_rate.some;
          left_first = spare_next left (step steps i).far i (step steps i).up W.left_first s.lower s.far_rate.most;
          left_second = spare_next left (step steps i).far i j W.left_first h s.far_rate.most;
          right_first = spare_next right (step steps i).near i (step steps i).up W.right_first s.lower s.near_rate.most;
          right_second = spare_next right (step steps i).near i j W.right_first h s.near_rate.most;
          inside = λ k w. W.inside k (below_first h w);
          ratio = λ y f. sym (one_more _ _ _ _ _ _ _ _ _ (sym (W.ratio y f)) (f i (W.inside i (first h))));
        }

  pub walk_end : RateFits produced → i ≡ j → (r : Bool) → Tells r (left ≡ right) → Agrees steps a b produced consumed r
  walk_end p e r T = record {
    tells = λ y some f.
        let w = rw (← e) at (W.ratio y f) in
        record {
          holds = λ t. meet_equal (y i) left right _ _ (some i) W.some (T.holds t) w;
          fails = λ t q. T.fails t (meet_unequal (y i) left right _ _ (some i) (one-le-mul (some a) p.some) q w);
        };
  }
