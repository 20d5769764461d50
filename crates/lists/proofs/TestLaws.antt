-- The laws of what a test tells.
use Prim.Native.Nat.{ℕ}
use mathlib.Core.Path.{◌≡◌, refl}
use mathlib.Core.Bool.{Bool, true, false}
use native.Mathlib.Omega.{arith}
use Rattle.lists.specs.Test.{Tells}

pub differ : {b : Bool} → b ≡ true → b ≡ false → ⊥
differ t f = let z : ◌≡◌ {A = ℕ} 0 1 = cc in omega arith

pub tells_true : {P : Type 0} {b : Bool} → b ≡ true → P → Tells b P
tells_true t p = record { holds = λ e. p; fails = λ e q. differ t e }

pub tells_false : {P : Type 0} {b : Bool} → b ≡ false → (P → ⊥) → Tells b P
tells_false f n = record { holds = λ e. absurd (differ e f); fails = λ e. n }

-- no second test tells the same
pub tells_once : {P : Type 0} (a b : Bool) → Tells a P → Tells b P → a ≡ b
tells_once true true s t = refl
tells_once true false s t = absurd (t.fails refl (s.holds refl))
tells_once false true s t = absurd (s.fails refl (t.holds refl))
tells_once false false s t = refl
