-- The laws of the word that a refusal's line has.
use Prim.Native.Nat.{ℕ, zero, suc, ◌+◌, ◌≤◌, ◌<◌}
use mathlib.Core.Path.{◌≡◌, refl, sym, ap, ◌∙◌}
use native.Mathlib.Decide.{ℕ_discrete}
use native.Mathlib.Omega.{arith}
use mathlib.Core.List.{List}
use Rattle.std.specs.Prelude.{Option, None, Some}
use Rattle.lists.proofs.Order.{order}
use Rattle.refusals.specs.Table.{Refusal, number, word}
use Rattle.refusals.proofs.TableLaws.{number_within, number_not_ten, number_once}
use Rattle.refusals.specs.declared.refusal.Refusal as declared
use Rattle.refusals.specs.Refused.{number_of, kind_of}
use Rattle.refusals.specs.Spelled.{Spelled}

-- the word of a refusal
pub spelled : (k : Refusal) {n : ℕ} {r : Option (List ℕ)} → n ≡ number k → r ≡ Some (word k) → Spelled n r
spelled k e w = record { known = λ k' e'. w ∙ ap (λ (j : Refusal). Some (word j)) (number_once k k' (sym e ∙ sym e')); unknown = λ none. absurd (none k (sym e)) }

-- A, and n is none of the `count` numbers behind `from`
unfoldable pub NoneBehind : (A : Type 0) (from count : ℕ) → ℕ → Type 0
NoneBehind A from zero n = A
NoneBehind A from (suc count) n = NoneBehind A from count n × (n ≡ from + suc count → ⊥)

none_behind : {A : Type 0} (from count : ℕ) {n : ℕ} → NoneBehind A from count n → A × ((x : ℕ) → from < x → x ≤ from + count → x ≡ n → ⊥)
unfolding NoneBehind
none_behind from zero o = (o, λ x a b e. omega arith)
none_behind from (suc count) o =
    let before = none_behind from count o.0 in
    (before.0, λ x a b e. elim (ℕ_discrete x (from + suc count)) [ yes q ↦ o.1 (sym e ∙ q) | no q ↦ before.1 x a (omega arith) e ])

-- no word: n is none of 1 to 9 and none of 11 to 16
pub spelled_none : {n : ℕ} {r : Option (List ℕ)} → NoneBehind (NoneBehind (Unit {0}) 0 9 n) 10 6 n → r ≡ None → Spelled n r
spelled_none {n} o z = record { known = λ k e. absurd (none k e); unknown = λ none. z }
  where
    none : (k : Refusal) → number k ≡ n → ⊥
    none k e =
        let high = none_behind 10 6 o in
        let low = none_behind 0 9 high.0 in
        let within = number_within k in
        order (number k) 10
        (λ below. low.1 (number k) within.0 (omega arith) e)
        (λ ten. number_not_ten k ten)
        (λ above. high.1 (number k) above within.1 e)

-- the word that a refusal tells is that of its number
pub word_spelled : (e : declared.Refusal) → Spelled (number_of e) (Some (word (kind_of e)))
word_spelled e = spelled (kind_of e) refl refl
