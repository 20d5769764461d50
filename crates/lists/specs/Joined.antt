-- Parts one after the other.
use Rattle.std.specs.Prelude.{ℕ, zero, suc, List, [], ◌++◌}

-- part 0, part 1, .., n of them, end to end
unfoldable pub joined : ℕ → (ℕ → List ℕ) → List ℕ
joined zero part = []
joined (suc n) part = joined n part ++ part n
