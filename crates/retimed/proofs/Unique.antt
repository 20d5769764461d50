-- No second answer meets a contract.
use Prim.Native.Nat.{ℕ}
use mathlib.Core.Path.{◌≡◌}
use mathlib.Core.List.{List}
use native.Mathlib.Omega.{arith}
use lib.ListN.{length}
use Rattle.lists.proofs.FilledLaws.{filled_once}
use Rattle.retimed.specs.Back.{BackOf, StartFirings}

pub back_unique : (n : ℕ) (q retiming : List ℕ) (c c' : ℕ) → BackOf n q retiming c → BackOf n q retiming c' → c ≡ c'
back_unique n q retiming c c' b b' = omega (arith, b.least c' b'.covers, b'.least c b.covers)

pub start_firings_unique : (n : ℕ) (q retiming : List ℕ) (back : ℕ) (l l' : List ℕ) → StartFirings n q retiming back l → StartFirings n q retiming back l' → length l ≡ length l' → l ≡ l'
start_firings_unique n q retiming back l l' = filled_once n l l' (λ v x y b p p'. omega arith)
