-- The laws of a stretch of entries that are the same.
use Prim.Native.Nat.{ℕ, zero, suc, ◌+◌, ◌-◌, ◌≤◌, ◌<◌}
use mathlib.Core.Path.{◌≡◌, refl, sym, ap, ap₂, ◌∙◌}
use mathlib.Core.Bool.{Bool}
use mathlib.Core.List.{List, [], ◌∷◌, ◌++◌, append_assoc, append-nil}
use native.Mathlib.Omega.{arith}
use lib.ListN.{length, take, drop, replicate, replicate-append-replicate}
use lib.Seq.{take-suc}
use lib.Dec.{eqb}
use Rattle.std.proofs.lemmas.Bool.{eq-eqb, eqb-true, eqb-false}
use Rattle.std.specs.List.{prefix_len}
use Rattle.std.proofs.lemmas.List.{get_or-drop, length-drop}
use Rattle.std.proofs.lemmas.List.Sums.{prefix_len-drop_yes, prefix_len-le-length, prefix_len_passes, prefix_len_stops}
use Rattle.lists.specs.Front.{at}
use Rattle.rooms.specs.Lifted.{StretchEnds}

-- whether an entry is the same as the one at `from`
abbrev pub alike : (list : List ℕ) (from entry : ℕ) → Bool
alike list from entry = eqb entry (at list from)

-- how many entries from there on are
abbrev pub alike_from : (list : List ℕ) (from : ℕ) → ℕ
alike_from list from = prefix_len (alike list from) (drop from list)

pub stretch_found : (list : List ℕ) (from : ℕ) → from < length list → StretchEnds list (length list) from (from + alike_from list from)
stretch_found list from here =
    let p = alike list from in
    let rest = drop from list in
    let place : (k : ℕ) → at rest k ≡ at list (from + k) = λ k. get_or-drop from list k 0 in
    record {
      some = omega (arith, prefix_len-drop_yes p list from 0 here (eq-eqb (at list from) (at list from) refl));
      within = omega (arith, prefix_len-le-length p rest, length-drop from list);
      same = λ k a b.
          let e : from + (k - from) ≡ k = omega arith in
          sym (ap (at list) e) ∙ sym (place (k - from)) ∙ eqb-true _ _ (prefix_len_passes p rest (k - from) 0 (omega arith));
      ends = λ l e. eqb-false _ _ (prefix_len_stops p rest 0 (omega (arith, length-drop from list))) (place (alike_from list from) ∙ e);
    }

module _ {list : List ℕ} {count from end : ℕ} (long : count ≤ length list) (stretch : StretchEnds list count from end) where
  part_taken : (k : ℕ) → from + k ≤ end → take (from + k) list ≡ take from list ++ replicate k (at list from)
  part_taken zero h = let e : from + 0 ≡ from = omega arith in rw e (sym (append-nil (take from list)))
  part_taken (suc k) h =
      let e : from + suc k ≡ suc (from + k) = omega arith in
      let one_more : k + 1 ≡ suc k = omega arith in
      let v = at list from in
      rw e
      (take-suc list (from + k) 0 (omega (arith, stretch.within))
      ∙ ap₂ (λ (l : List ℕ) (x : ℕ). l ++ (x ∷ [])) (part_taken k (omega arith)) (stretch.same (from + k) (omega arith) (omega arith))
      ∙ append_assoc (take from list) (replicate k v) (v ∷ [])
      ∙ ap (λ (l : List ℕ). take from list ++ l) (replicate-append-replicate k 1 v ∙ ap (λ (n : ℕ). replicate n v) one_more))

  -- the entries before the stretch, and the stretch
  pub stretch_taken : take end list ≡ take from list ++ replicate (end - from) (at list from)
  stretch_taken = let e : end ≡ from + (end - from) = omega (arith, stretch.some) in ap (λ (x : ℕ). take x list) e ∙ part_taken (end - from) (omega (arith, stretch.some))
