-- What a test tells.
use Rattle.std.specs.Prelude.{◌≡◌, Bool, true, false}

-- the test says whether P holds
pub record Tells (test : Bool) (P : Type 0) : Type 0 where
  pub holds : test ≡ true → P
  pub fails : test ≡ false → P → ⊥
