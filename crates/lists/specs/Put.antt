-- A list with another stored into it.
use Rattle.std.specs.Prelude.{ℕ, ◌≡◌, List, length}
use Rattle.std.proofs.lemmas.List.Edits.{sets}

-- the list with v stored from a place on, entry by entry
unfoldable pub put : List ℕ → ℕ → List ℕ → List ℕ
put l place v = sets l place v

-- v, of length k, was stored into l from a place on, and gave now
pub record Wrote (l : List ℕ) (place : ℕ) (v : List ℕ) (k : ℕ) (now : List ℕ) : Type 0 where
  pub is : now ≡ put l place v
  pub long : length v ≡ k
