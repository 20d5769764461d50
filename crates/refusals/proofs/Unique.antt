-- No second word meets a contract.
use Prim.Native.Nat.{ℕ}
use mathlib.Core.Path.{◌≡◌, sym, ◌∙◌}
use mathlib.Core.List.{List}
use Rattle.std.specs.Prelude.{Option}
use Rattle.refusals.specs.Table.{Refusal, number}
use Rattle.refusals.proofs.TableLaws.{number_dec}
use Rattle.refusals.specs.Spelled.{Spelled}

pub word_unique : (n : ℕ) (r r' : Option (List ℕ)) → Spelled n r → Spelled n r' → r ≡ r'
word_unique n r r' p q = by (number_dec n)
  where
    by : Dec ((k : Refusal) × (number k ≡ n)) → r ≡ r'
    by (yes (k, e)) = p.known k e ∙ sym (q.known k e)
    by (no d) =
        let none : (k : Refusal) → number k ≡ n → ⊥ = λ k e. d (k, e) in
        p.unknown none ∙ sym (q.unknown none)
