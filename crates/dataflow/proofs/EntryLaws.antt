-- A run that stands in the first entries of a list, one entry at a time.
use mathlib.Core.Path.{◌≡◌, sym, ap, ◌∙◌}
use mathlib.Core.List.{List, [], ◌∷◌, ◌++◌}
use Prim.Native.Nat.{ℕ, suc, ◌+◌, ◌≤◌, ◌<◌}
use native.Mathlib.Omega.{arith}
use native.Mathlib.Numerals.{add-one}
use lib.ListN.{length, take, drop, length-take, take-append-drop}
use lib.Seq.{split_at, take-take, get_or-take, take-suc}
use Rattle.lists.specs.Front.{at}
use Rattle.dataflow.specs.Net.{Net}
use Rattle.dataflow.specs.Runs.{State, after, Run}
use Rattle.dataflow.proofs.TakenLaws.{run_front, run_rest, run_station}

module _ (G : Net) (S : State G) (total : ℕ) (list : List ℕ) (long : total ≤ length list) (run : Run G S (take total list)) where
  -- a part of it from the first entry on is a run too
  pub run_before : (k : ℕ) → k ≤ total → Run G S (take k list)
  run_before k h =
      let l = take total list in
      let e : take k list ++ drop k l ≡ l = ap (λ (x : List ℕ). x ++ drop k l) (sym (take-take k total list h)) ∙ take-append-drop k l in
      run_front G S (take k list) (drop k l) (rw e run)

  module _ (k : ℕ) (h : k < total) where
    -- the list, cut before its entry k
    pub cut : take total list ≡ take k list ++ at list k ∷ drop (suc k) (take total list)
    cut = split_at (take total list) k 0 (omega (arith, length-take total list)) ∙ rw (take-take k total list (omega arith), get_or-take total list k 0 h)

    pub run_here : Run G (after G S (take k list)) (at list k ∷ drop (suc k) (take total list))
    run_here = run_rest G S (take k list) (at list k ∷ drop (suc k) (take total list)) (rw cut at run)

    -- the entry is a station
    pub entry_station : at list k < G.stations
    entry_station = run_station G run_here

    pub with_entry : take (k + 1) list ≡ take k list ++ (at list k ∷ [])
    with_entry = rw add-one (take-suc list k 0 (omega arith))
