-- A part of a list.
use Rattle.std.specs.Prelude.{ℕ, List, take, drop}

-- n entries from a place on
unfoldable pub part : List ℕ → ℕ → ℕ → List ℕ
part l place n = take n (drop place l)
