-- Runs: on each queue a list of tokens, first in, first out.
use Rattle.std.specs.Prelude.{◌≡◌, List, [], ◌∷◌, ◌++◌, ℕ, zero, suc, ◌+◌, ◌≤◌, ◌<◌, length, take, drop}
use Rattle.std.proofs.Math.Decide.{ℕ_discrete}
use Rattle.dataflow.specs.Net.{Net}

-- An initial token is known by its place, a made one by its firing and its place in that firing (both from 1).
pub data Token : Type 0 where
  initial : (place : ℕ) → Token
  made : (firing place : ℕ) → Token

-- f a, f (a + 1), .. : n of them
abbrev pub list_from : {A : Type 0} → (ℕ → A) → (a n : ℕ) → List A
list_from f a zero = []
list_from f a (suc n) = f a ∷ list_from f (suc a) n

-- n where X holds, else 0
abbrev pub whenever : {X : Type 0} → Dec X → ℕ → ℕ
whenever (yes x) n = n
whenever (no x) n = 0

module _ (G : Net) where
  -- How often each station has fired, and what each queue holds, front first.
  pub record State : Type 0 where
    pub fired : ℕ → ℕ
    pub holds : G.Queue → List Token

  -- Before the first firing each queue holds its delay of initial tokens.
  abbrev pub initially : (d : G.Queue → ℕ) → State
  initially d = record { fired = λ v. 0; holds = λ e. list_from initial 0 (d e) }

  -- What a firing of v takes from queue e, and what it puts there.
  abbrev pub takes_from : (v : ℕ) (e : G.Queue) → ℕ
  takes_from v e = whenever (ℕ_discrete (G.sink e) v) (G.consumed e)

  abbrev pub puts_on : (v : ℕ) (e : G.Queue) → ℕ
  puts_on v e = whenever (ℕ_discrete (G.source e) v) (G.produced e)

  -- A firing of v takes from the front of each queue, then puts at the back.
  abbrev pub fire : ℕ → State → State
  fire v S = record {
    fired = λ w. S.fired w + whenever (ℕ_discrete w v) 1;
    holds = λ e. drop (takes_from v e) (S.holds e) ++ list_from (made (suc (S.fired v))) 1 (puts_on v e);
  }

  -- The state after the firings of a list of stations, in that order.
  abbrev pub after : State → List ℕ → State
  after S [] = S
  after S (v ∷ l) = after (fire v S) l

  -- No queue into v is short.
  abbrev pub Ready : State → ℕ → Type 0
  Ready S v = (e : G.Queue) → G.sink e ≡ v → G.consumed e ≤ length (S.holds e)

  -- A run from S that never runs short, as the stations in firing order.
  pub data Run : State → List ℕ → Type 0 where
    ended : {S : State} → Run S []
    fires : {S : State} {v : ℕ} {l : List ℕ} → v < G.stations → Ready S v → Run (fire v S) l → Run S (v ∷ l)

  -- In the run l from the delays d, firing n (from 1) of the sink of queue e takes these tokens from it, in this order.
  pub record TakenBy (d : G.Queue → ℕ) (l : List ℕ) (e : G.Queue) (n : ℕ) (tokens : List Token) : Type 0 where
    pub earlier : List ℕ
    pub later : List ℕ
    pub order : l ≡ earlier ++ G.sink e ∷ later
    pub number : n ≡ suc ((after (initially d) earlier).fired (G.sink e))
    pub are : tokens ≡ take (G.consumed e) ((after (initially d) earlier).holds e)
