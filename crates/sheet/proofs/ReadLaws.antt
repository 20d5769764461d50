-- The laws of reading.
use Prim.Native.Nat.{ℕ, ◌+◌, ◌-◌, ◌≤◌, ◌<◌}
use mathlib.Core.Path.{◌≡◌, refl, sym, ◌∙◌}
use mathlib.Core.List.{List, [], ◌∷◌}
use mathlib.Core.Logic.{⊎_elim}
use native.Mathlib.Omega.{arith}
use lib.ListN.{length, replicate, get_or-eq_default}
use Rattle.std.specs.Prelude.{Some, None, Result, Ok, Err}
use Rattle.lists.specs.Front.{at}
use Rattle.lists.specs.Lowest.{LowestFailing, FirstFailing}
use Rattle.lists.proofs.FrontLaws.{at_front, front_rest}
use Rattle.lists.proofs.StoreLaws.{at_zeros}
use Rattle.lists.proofs.Order.{lt_or_ge, le_stable, eq_stable}
use Rattle.refusals.specs.First.{Row, Passed, First}
use Rattle.refusals.specs.Refused.{Answered}
use Rattle.refusals.specs.declared.refusal.Refusal.{Refusal}
use Rattle.refusals.specs.declared.refusal.Refusal.TheVariants.{Field}
use Rattle.refusals.proofs.FirstLaws.{here, passed, none, extend, append, all_passed}
use Rattle.refusals.proofs.RefusedLaws.{number_real, refused, given, passes, follows}
use Rattle.sheet.specs.declared.Sheet.{Sheet}
use Rattle.sheet.specs.Limits.{CountsFit, QueueFits, SheetQueueFits}
use Rattle.sheet.specs.Format.{version, padded, sheet_of}
use Rattle.sheet.specs.Read.{HeaderFits, Laid, Passes, header_rows, field_row, read_rows, Reads}

header_stable : (s : List ℕ) → ((HeaderFits s → ⊥) → ⊥) → HeaderFits s
header_stable s h =
    record {
      counts =
          record {
            some = le_stable (λ n. h (λ f. n f.counts.some));
            stations = le_stable (λ n. h (λ f. n f.counts.stations));
            queues = le_stable (λ n. h (λ f. n f.counts.queues));
          };
      zero = eq_stable (λ n. h (λ f. n f.zero));
    }

laid_stable : (s : List ℕ) → ((Laid s → ⊥) → ⊥) → Laid s
laid_stable s h =
    record {
      stations_at = eq_stable (λ n. h (λ f. n f.stations_at));
      queues_at = eq_stable (λ n. h (λ f. n f.queues_at));
      ends = eq_stable (λ n. h (λ f. n f.ends));
    }

right : (s : List ℕ) → ((version s ≡ 1 → ⊥) → ⊥) → ((HeaderFits s → ⊥) → ⊥) → ((Laid s → ⊥) → ⊥) → Passes s
right s v h l = record { known = eq_stable v; header = header_stable s h; laid = laid_stable s l }

-- where none of refusals 1 to 5 is given, the header and the layout are right
pub passes_read : (s : List ℕ) {k p : ℕ} → First (read_rows s) k p → k ≡ 0 → Passes s
passes_read s f e =
    let all = all_passed f e in
    right s (all 1 (omega arith) 0) (all 2 (omega arith) 0) (all 3 (omega arith) 0)

-- a refusal by the header is the first
pub refused_header : (s : List ℕ) {k p : ℕ} → First (header_rows s) k p → (k ≡ 0 → ⊥) → First (read_rows s) k p
refused_header s f n = extend (header_rows s) (field_row (sheet_of s) ∷ []) f n

module _ (s : List ℕ) (sheet : Sheet) (is : sheet ≡ sheet_of s) {k : ℕ} (header : First (header_rows s) k 0) (fits : k ≡ 0) {bad : ℕ} (lowest : LowestFailing (SheetQueueFits sheet) sheet.m bad) where
  -- the lowest bad queue is refused
  pub refused_field : bad < sheet.m → First (read_rows s) 5 bad
  refused_field l =
      append (header_rows s) (all_passed header fits)
      (rw (← is)
      (here {r = field_row sheet} (record { applies = (l, lowest.fails l); none_below = λ i b a. a.1 (lowest.below i b) })))

  -- no queue is bad
  pub accepted : sheet.m ≤ bad → First (read_rows s) 0 0
  accepted l =
      append (header_rows s) (all_passed header fits)
      (rw (← is) (passed {r = field_row sheet} (λ e a. a.1 (lowest.below e (omega (arith, a.0)))) none))

-- the lowest bad queue is refused
pub bad_refused : {T : Type 0} {P : T → Type 0} {rows : List Row} (f : Sheet) (e : ℕ) → FirstFailing (SheetQueueFits f) f.m (Some e) → Answered (field_row f ∷ rows) P (Err (Field e))
bad_refused f e bad =
    let in_sheet : e < f.m = bad.inside e refl in
    refused (Field e) (here {r = field_row f} (record { applies = (in_sheet, bad.lowest.fails in_sheet); none_below = λ i b a. a.1 (bad.lowest.below i b) }))

-- no queue is bad
pub none_bad : (f : Sheet) → FirstFailing (SheetQueueFits f) f.m None → Passed (field_row f)
none_bad f bad e a = a.1 (bad.lowest.below e a.0)

-- the sheet that such bytes hold is within the limit of m
pub few_queues : (s : List ℕ) (sheet : Sheet) → sheet ≡ sheet_of s → Passes s → sheet.m ≤ 64
unfolding sheet_of
few_queues s sheet is ok = rw is ok.header.counts.queues

module _ (s : List ℕ) where
  -- what the header is refused for is the first
  pub header_refused : {T : Type 0} {P : T → Type 0} {e : Refusal} → Answered (header_rows s) P (Err e) → Reads s (Err e)
  header_refused {e = e} a = refused e (refused_header s a.verdict (number_real e))

  module _ {T : Type 0} {P : T → Type 0} {x : T} (header : Answered (header_rows s) P (Ok x)) (sheet : Sheet) (is : sheet ≡ sheet_of s) where
    behind : {r : Result Sheet Refusal} → Answered (field_row (sheet_of s) ∷ []) (λ f. f ≡ sheet_of s) r → Reads s r
    behind a = follows (header_rows s) (all_passed header.verdict refl) a

    pub queue_refused : (e : ℕ) → FirstFailing (SheetQueueFits sheet) sheet.m (Some e) → Reads s (Err (Field e))
    queue_refused e bad = behind (bad_refused (sheet_of s) e (rw is at bad))

    pub accepts : FirstFailing (SheetQueueFits sheet) sheet.m None → Reads s (Ok sheet)
    accepts bad = behind (passes (none_bad (sheet_of s) (rw is at bad)) (given sheet is))

-- an accepted sheet is within the limits of n and m
pub accepted_counts : (s : List ℕ) (f : Sheet) → Reads s (Ok f) → CountsFit f.n f.m
unfolding sheet_of
accepted_counts s f q = rw q.accepted (passes_read s q.verdict refl).header.counts

fits_stable : {n source sink produced consumed delay : ℕ} → ((QueueFits n source sink produced consumed delay → ⊥) → ⊥) → QueueFits n source sink produced consumed delay
fits_stable h = record {
  from = le_stable (λ x. h (λ f. x f.from));
  to = le_stable (λ x. h (λ f. x f.to));
  makes = le_stable (λ x. h (λ f. x f.makes));
  makes_most = le_stable (λ x. h (λ f. x f.makes_most));
  takes = le_stable (λ x. h (λ f. x f.takes));
  takes_most = le_stable (λ x. h (λ f. x f.takes_most));
  holds_most = le_stable (λ x. h (λ f. x f.holds_most));
}

-- and so is each of its queues
pub accepted_queues : (s : List ℕ) (f : Sheet) → Reads s (Ok f) → (e : ℕ) → e < f.m → SheetQueueFits f e
accepted_queues s f q e h = let passed = all_passed q.verdict refl 4 (omega arith) e in fits_stable (λ x. (rw (← q.accepted) at passed) (h, x))

-- behind its entries a column is 0
pub padded_rest : (n : ℕ) (f : ℕ → ℕ) (size k : ℕ) → n ≤ k → at (padded size n f) k ≡ 0
padded_rest n f size k h = let e : k ≡ n + (k - n) = omega arith in rw e (front_rest n f (replicate size 0) (k - n) ∙ at_zeros size (n + (k - n)))

-- and where it has all of a list's, it is that list
pub padded_at : (l : List ℕ) (size k : ℕ) → at (padded size (length l) (at l)) k ≡ at l k
padded_at l size k =
    ⊎_elim (λ h. at_front (length l) (at l) (replicate size 0) k h) (λ h. padded_rest (length l) (at l) size k h ∙ sym (get_or-eq_default l 0 {n = k} h)) (lt_or_ge k (length l))

-- no delay stands behind the last queue
pub accepted_rest : (s : List ℕ) (f : Sheet) → Reads s (Ok f) → (e : ℕ) → f.m ≤ e → at f.delay e ≡ 0
unfolding sheet_of
accepted_rest s f q e h = rw q.accepted (padded_rest _ _ 64 e (rw q.accepted at h))
