-- The steps of a tree, and the way between two of its places. A step leads from a place to one below it.
use Rattle.std.specs.Prelude.{ℕ, ◌*◌, ◌≤◌, ◌<◌, ◌≡◌, Bool, List, get_or}
use Rattle.lists.specs.Test.{Tells}
use Rattle.balance.specs.declared.way.Step.{Step}

-- the step from place i
abbrev pub step : (steps : List Step) (i : ℕ) → Step
step steps i = get_or steps i (record { up = 0; near = 0; far = 0 })

-- a rate is within limits
pub record RateFits (rate : ℕ) : Type 0 where
  pub some : 1 ≤ rate
  pub most : rate ≤ 64

-- the step from place i leads to a place below it, and its rates are within limits
pub record StepFits (s : Step) (i : ℕ) : Type 0 where
  pub lower : s.up < i
  pub near_rate : RateFits s.near
  pub far_rate : RateFits s.far

-- every step fits, also one from a place that no station has
pub record Steps (steps : List Step) : Type 0 where
  pub fits : (i : ℕ) → 1 ≤ i → i < 32 → StepFits (step steps i) i

-- y balances the step from place i
abbrev pub BalancesStep : (steps : List Step) (y : ℕ → ℕ) (i : ℕ) → Type 0
BalancesStep steps y i = y i * (step steps i).near ≡ y (step steps i).up * (step steps i).far

-- i is a step on the way between places a and b, which leads down from the higher of them until they meet
pub data OnWay (steps : List Step) : (a b i : ℕ) → Type 0 where
  first : {a b : ℕ} → b < a → OnWay steps a b a
  second : {a b : ℕ} → a < b → OnWay steps a b b
  below_first : {a b i : ℕ} → b < a → OnWay steps (step steps a).up b i → OnWay steps a b i
  below_second : {a b i : ℕ} → a < b → OnWay steps a (step steps b).up i → OnWay steps a b i

-- where y is positive and balances the steps between places a and b, the answer tells whether it balances a queue from a to b with these rates
pub record Agrees (steps : List Step) (a b produced consumed : ℕ) (r : Bool) : Type 0 where
  pub tells : (y : ℕ → ℕ) → ((i : ℕ) → 1 ≤ y i) → ((i : ℕ) → OnWay steps a b i → BalancesStep steps y i) → Tells r (y a * produced ≡ y b * consumed)
