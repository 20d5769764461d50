-- The dispatcher's part is what comes next.
use mathlib.Core.Path.{◌≡◌, ap, ◌∙◌}
use mathlib.Core.List.{List, [], ◌∷◌, ◌++◌}
use Prim.Native.Nat.{ℕ, zero, suc, ◌+◌, ◌-◌, ◌*◌, ◌/◌, ◌%◌, ◌≤◌, ◌<◌}
use native.Mathlib.Nat.{div-add-mod', mod-lt}
use native.Mathlib.Omega.{arith}
use native.Mathlib.Decide.{dec_lt}
use lib.ListN.{length, drop}
use lib.Seq.{drop-append-le, drop-append-add}
use Rattle.dataflow.specs.Lists.{repeated}
use Rattle.dataflow.specs.Dispatch.{chosen, part, firings}

-- k whole rounds further
pub drop_rounds : {A : Type 0} (l : List A) (k m n : ℕ) → drop (k * length l + n) (repeated (k + m) l) ≡ drop n (repeated m l)
drop_rounds l zero m n = let a : 0 * length l + n ≡ n = omega arith in let b : 0 + m ≡ m = omega arith in rw (a, b)
drop_rounds l (suc k) m n =
    let a : suc k * length l + n ≡ length l + (k * length l + n) = omega arith in
    let b : suc k + m ≡ suc (k + m) = omega arith in
    rw (a, b) (drop-append-add l (repeated (k + m) l) (k * length l + n) ∙ drop_rounds l k m n)

-- While the start list isn't done, what is still to be fired begins with the part.
pub part_in_start : (start round rest : List ℕ) (done : ℕ) → done < length start → drop done (start ++ rest) ≡ firings start round (part (length start) (length round) done) ++ rest
part_in_start start round rest done h = go (dec_lt done (length start))
  where
    go : (w : Dec (done < length start)) → drop done (start ++ rest) ≡ firings start round (chosen (length start) (length round) done w) ++ rest
    go (yes l) = drop-append-le done start rest (omega arith)
    go (no n) = absurd (n h)

-- After that too: the part is the rest of the round in which the firings done end, and m whole rounds follow.
pub part_in_round : (start round : List ℕ) (done m : ℕ) → length start ≤ done → 1 ≤ length round
    → drop done (start ++ repeated ((done - length start) / length round + suc m) round) ≡ firings start round (part (length start) (length round) done) ++ repeated m round
part_in_round start [] done m h pos = absurd (omega arith)
part_in_round start (v ∷ l) done m h pos = go (dec_lt done (length start))
  where
    round : List ℕ
    round = v ∷ l

    n : ℕ
    n = done - length start

    all : List ℕ
    all = repeated (n / length round + suc m) round

    done_is : done ≡ length start + (n / length round * length round + n % length round)
    done_is = omega (arith, div-add-mod' n (length round))

    go : (w : Dec (done < length start)) → drop done (start ++ all) ≡ firings start round (chosen (length start) (length round) done w) ++ repeated m round
    go (yes k) = absurd (omega arith)
    go (no k) =
        ap (λ (x : ℕ). drop x (start ++ all)) done_is ∙ drop-append-add start all _ ∙ drop_rounds round (n / length round) (suc m) (n % length round)
        ∙ drop-append-le (n % length round) round (repeated m round) (omega (arith, mod-lt n pos))
