-- The laws of the first refusal that applies.
use Prim.Native.Nat.{ℕ, zero, suc, ◌<◌}
use mathlib.Core.Path.{◌≡◌, refl}
use mathlib.Core.List.{List, [], ◌∷◌, ◌++◌}
use lib.ListN.{length}
use native.Mathlib.Omega.{arith}
use native.Mathlib.Nat.{not-suc-le-zero, le_of_suc-le-suc}
use Rattle.lists.proofs.Order.{order}
use Rattle.refusals.specs.Table.{Refusal, number}
use Rattle.refusals.specs.First.{Row, row, Passed, Lowest, nth, First, given, free}
use Rattle.refusals.proofs.TableLaws.{number_within, number_not_ten}

lowest_unique : {r : Row} {p p' : ℕ} → Lowest r p → Lowest r p' → p ≡ p'
lowest_unique {r} {p} {p'} l l' =
    order p p'
    (λ lt. absurd (l'.none_below p lt l.applies))
    (λ eq. eq)
    (λ gt. absurd (l.none_below p' gt l'.applies))

-- the row itself is the first that applies
pub here : {r : Row} {rows : List Row} {place : ℕ} → Lowest r place → First (r ∷ rows) (number r.refusal) place
here l = given 0 (omega arith) (λ j b. absurd (not-suc-le-zero b)) l

-- a row without a place
pub here_now : (refusal : Refusal) {when : Type 0} {rows : List Row} → when → First (row refusal when ∷ rows) (number refusal) 0
here_now refusal w = here (record { applies = w; none_below = λ i l a. not-suc-le-zero l })

after : (r : Row) (rows : List Row) (n : ℕ) → Passed r → ((j : ℕ) → j < n → Passed (nth rows j)) → (j : ℕ) → j < suc n → Passed (nth (r ∷ rows) j)
after r rows n p f zero b = p
after r rows n p f (suc j) b = f j (le_of_suc-le-suc b)

-- the row applies nowhere, so the first is that of the others
pub passed : {r : Row} {rows : List Row} {number place : ℕ} → Passed r → First rows number place → First (r ∷ rows) number place
passed {r} {rows} p (given i b f l) = given (suc i) (omega arith) (after r rows i p f) l
passed {r} {rows} p (free f) = free (after r rows (length rows) p f)

-- no row is left
pub none : First [] 0 0
none = free (λ j b. absurd (not-suc-le-zero b))

given_extend : (rows more : List Row) (i : ℕ) {place : ℕ} → i < length rows → ((j : ℕ) → j < i → Passed (nth rows j)) → Lowest (nth rows i) place → First (rows ++ more) (number (nth rows i).refusal) place
given_extend [] more i b f l = absurd (not-suc-le-zero b)
given_extend (r ∷ rows) more zero b f l = here l
given_extend (r ∷ rows) more (suc i) b f l =
    passed (f 0 (omega arith)) (given_extend rows more i (omega arith) (λ j h. f (suc j) (omega arith)) l)

-- what was given stays given when rows follow
pub extend : (rows more : List Row) {number place : ℕ} → First rows number place → (number ≡ 0 → ⊥) → First (rows ++ more) number place
extend rows more (given i b f l) n = given_extend rows more i b f l
extend rows more (free f) n = absurd (n refl)

-- none was given, so each row applies nowhere
pub all_passed : {rows : List Row} {k p : ℕ} → First rows k p → k ≡ 0 → (j : ℕ) → j < length rows → Passed (nth rows j)
all_passed {rows} (given i b f l) e = absurd (omega (arith, number_within (nth rows i).refusal))
all_passed (free f) e = f

-- where every row applies nowhere, the first is among those that follow
pub append : (rows : List Row) {more : List Row} {number place : ℕ} → ((j : ℕ) → j < length rows → Passed (nth rows j)) → First more number place → First (rows ++ more) number place
append [] p f = f
append (r ∷ rows) p f = passed (p 0 (omega arith)) (append rows (λ j h. p (suc j) (omega arith)) f)

-- a row of the front of a list is that row of the list
pub front_passed : (rows more : List Row) → ((j : ℕ) → j < length rows → Passed (nth (rows ++ more) j)) → (j : ℕ) → j < length rows → Passed (nth rows j)
front_passed [] more p j b = absurd (not-suc-le-zero b)
front_passed (r ∷ rows) more p zero b = p 0 (omega arith)
front_passed (r ∷ rows) more p (suc j) b = front_passed rows more (λ i h. p (suc i) (omega arith)) j (omega arith)

-- what a refusal tells: its row applies, and every row before it nowhere
pub record Given (rows : List Row) (k place : ℕ) : Type 0 where
  pub row : ℕ
  pub here : row < length rows
  pub before : (j : ℕ) → j < row → Passed (nth rows j)
  pub applies : (nth rows row).applies place
  pub is : k ≡ number (nth rows row).refusal

pub refusal_given : {rows : List Row} {k place : ℕ} → First rows k place → (k ≡ 0 → ⊥) → Given rows k place
refusal_given (given i b f l) e = record { row = i; here = b; before = f; applies = l.applies; is = refl }
refusal_given (free f) e = absurd (e refl)

-- whatever the rows, 10 is never given
pub never_ten : {rows : List Row} {k place : ℕ} → First rows k place → k ≡ 10 → ⊥
never_ten {rows} (given i b f l) e = number_not_ten (nth rows i).refusal e
never_ten (free f) e = omega arith

-- no second number and place
pub unique : {rows : List Row} {k p k' p' : ℕ} → First rows k p → First rows k' p' → (k ≡ k') × (p ≡ p')
unique {rows} (given {place = p} i b f l) (given {place = p'} i' b' f' l') =
    order i i'
    (λ lt. absurd (f' i lt p l.applies))
    (λ eq. (rw eq, lowest_unique l (rw eq l')))
    (λ gt. absurd (f i' gt p' l'.applies))
unique (given {place = p} i b f l) (free f') = absurd (f' i b p l.applies)
unique (free f) (given {place = p} i b f' l) = absurd (f i b p l.applies)
unique (free f) (free f') = (refl, refl)
