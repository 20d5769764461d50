-- The laws of the order after a raise.
use mathlib.Core.Path.{◌≡◌, refl, sym, ◌∙◌, fun_ext}
use mathlib.Core.List.{List, ◌++◌}
use mathlib.Core.Logic.{⊎_elim}
use Prim.Native.Nat.{ℕ, ◌+◌, ◌≤◌}
use native.Mathlib.Nat.{le_dest}
use native.Mathlib.Omega.{arith}
use lib.ListN.{length, take, drop, replicate, length-append}
use lib.Seq.{take_at, get_or-append-add, get_or-drop}
use Rattle.lists.specs.Front.{at}
use Rattle.lists.specs.Put.{put}
use Rattle.lists.proofs.Order.{lt_or_ge}
use Rattle.lists.proofs.PutLaws.{put_append, put_front, length_put}
use Rattle.lists.proofs.StoreLaws.{at_zeros}
use Rattle.search.specs.Cut.{between, none_fired, keeps, Keeps, Gatherable, late_first, Cuttable, Reordered}

abbrev pub zeros : List ℕ
zeros = replicate 256 0

pub none_fired_lem : at (replicate 32 0) ≡ none_fired
none_fired_lem = fun_ext (at_zeros 32)

module _ {n total : ℕ} {q late list : List ℕ} (c : Cuttable n total q late list) where
  pub keeps_are : {keep : List ℕ} → Keeps n q late keep → at keep ≡ keeps q late
  keeps_are k = fun_ext (λ v. ⊎_elim (λ l. omega (arith, k.is v l)) (λ l. omega (arith, k.rest v l, c.beyond v l)) (lt_or_ge v n))

  abbrev second : List ℕ
  second = between (keeps q late) (at q) none_fired (take total list)

  abbrev first : List ℕ
  first = between none_fired (keeps q late) none_fired (take total list)

  both : length second + length first ≡ total
  unfolding late_first
  both = omega (arith, length-append second first, c.whole)

  -- each part has room behind what is there
  pub second_fits : {keep : List ℕ} → Keeps n q late keep → Gatherable total keep q list 0 zeros
  second_fits k = record {
    few = c.most;
    long = c.long;
    room = refl;
    stations = λ i h. omega (arith, c.stations i h, c.few);
    fits = rw (keeps_are k) (omega (arith, both, c.most));
  }

  module _ {keep order : List ℕ} {place : ℕ} (k : Keeps n q late keep) (p : place ≡ 0 + length (between (at keep) (at q) none_fired (take total list)))
      (o : order ≡ put zeros 0 (between (at keep) (at q) none_fired (take total list))) where
    pub first_fits : Gatherable total (replicate 32 0) keep list place order
    first_fits = record {
      few = c.most;
      long = c.long;
      room = rw o (length_put zeros 0 _);
      stations = λ i h. omega (arith, c.stations i h, c.few);
      fits = rw (p, none_fired_lem, keeps_are k) (omega (arith, both, c.most));
    }

    pub reordered : {new : List ℕ} → new ≡ put order place (between (at (replicate 32 0)) (at keep) none_fired (take total list)) → Reordered q late total list new
    unfolding late_first
    reordered e =
        rw (e, o, p, none_fired_lem, keeps_are k, put_append zeros 0 second first, put_front zeros (second ++ first) fits) (record { is = take_at (second ++ first) _ total c.whole; rest = rest })
      where
        fits : length (second ++ first) ≤ length zeros
        fits = omega (arith, c.whole, c.most)

        rest : (i : ℕ) → total ≤ i → at ((second ++ first) ++ drop (length (second ++ first)) zeros) i ≡ 0
        rest i h =
            let x = le_dest {n = length (second ++ first)} {m = i} (omega (arith, c.whole)) in
            rw (sym x.1)
            (get_or-append-add (second ++ first) _ x.0 0 ∙ get_or-drop (length (second ++ first)) zeros x.0 0 ∙ at_zeros 256 (length (second ++ first) + x.0))
