-- The laws of gathering a part of a round.
use mathlib.Core.Path.{◌≡◌, refl, sym, ap, ◌∙◌, fun_ext}
use mathlib.Core.List.{List, [], ◌∷◌, ◌++◌, append_assoc, append-nil}
use Prim.Native.Nat.{ℕ, suc, ◌+◌, ◌≤◌, ◌<◌}
use native.Mathlib.Omega.{arith}
use native.Mathlib.Numerals.{add-one}
use native.Mathlib.Decide.{ℕ_discrete, dec_le, dec_lt}
use lib.ListN.{length, take, drop, set, replicate, length-set, length-append, length-take, drop_of_length-le}
use lib.Seq.{drop-cons, get_or-take, get_or-set_same, get_or-set_other}
use Rattle.lists.specs.Front.{at}
use Rattle.lists.specs.Put.{put}
use Rattle.lists.proofs.PutLaws.{put_nothing, put_one_more}
use Rattle.lists.proofs.StoreLaws.{at_zeros}
use Rattle.dataflow.specs.Runs.{whenever}
use Rattle.search.specs.Cut.{one_more_of, Between, where_between, between, none_fired, Gatherable}

module _ (low high F : ℕ → ℕ) (v : ℕ) (l : List ℕ) where
  pub between_in : Between (low v) (F v) (high v) → between low high F (v ∷ l) ≡ v ∷ between low high (one_more_of v F) l
  unfolding between
  between_in b = go (dec_le (low v) (F v)) (dec_lt (F v) (high v))
    where
      go : (x : Dec (low v ≤ F v)) (y : Dec (F v < high v)) → where_between x y v (between low high (one_more_of v F) l) ≡ v ∷ between low high (one_more_of v F) l
      go (yes x) (yes y) = refl
      go (yes x) (no y) = absurd (y b.before)
      go (no x) y = absurd (x b.from)

  pub between_out : (Between (low v) (F v) (high v) → ⊥) → between low high F (v ∷ l) ≡ between low high (one_more_of v F) l
  unfolding between
  between_out n = go (dec_le (low v) (F v)) (dec_lt (F v) (high v))
    where
      go : (x : Dec (low v ≤ F v)) (y : Dec (F v < high v)) → where_between x y v (between low high (one_more_of v F) l) ≡ between low high (one_more_of v F) l
      go (yes x) (yes y) = absurd (n (record { from = x; before = y }))
      go (yes x) (no y) = refl
      go (no x) y = refl

pub between_none : (low high F : ℕ → ℕ) → between low high F [] ≡ []
unfolding between
between_none low high F = refl

-- the numbers of firings in a list, after one more
pub fired_one_more : (fired : List ℕ) (v : ℕ) → v < length fired → at (set fired v (at fired v + 1)) ≡ one_more_of v (at fired)
fired_one_more fired v h = fun_ext (λ w. go w (ℕ_discrete w v))
  where
    go : (w : ℕ) (x : Dec (w ≡ v)) → at (set fired v (at fired v + 1)) w ≡ at fired w + whenever x 1
    go w (yes x) = rw (x, get_or-set_same fired v (at fired v + 1) 0 h) refl
    go w (no x) = rw (get_or-set_other fired v w (at fired v + 1) 0 x) (omega arith)

module _ (total : ℕ) (low high list : List ℕ) (from : ℕ) (before : List ℕ) where
  -- what the first k entries gave is stored, and fired has their numbers
  pub record Gathered (order fired : List ℕ) (place k : ℕ) : Type 0 where
    pub wide : length fired ≡ 32
    pub room : length order ≡ 256
    pub few : (v : ℕ) → at fired v ≤ k
    pub got : List ℕ
    pub behind : place ≡ from + length got
    pub stored : order ≡ put before from got
    pub still : got ++ between (at low) (at high) (at fired) (drop k (take total list)) ≡ between (at low) (at high) none_fired (take total list)

  pub none_gathered : length before ≡ 256 → Gathered before (replicate 32 0) from 0
  unfolding put
  none_gathered h = record {
    wide = refl;
    room = h;
    few = λ v. omega (arith, at_zeros 32 v);
    got = [];
    behind = omega arith;
    stored = put_nothing before from;
    still = ap (λ (F : ℕ → ℕ). between (at low) (at high) F (take total list)) (fun_ext (at_zeros 32));
  }

  module _ (g : Gatherable total low high list from before) {order fired : List ℕ} {place k : ℕ} (z : Gathered order fired place k) (h : k < total) where
    abbrev v : ℕ
    v = at list k

    here : drop k (take total list) ≡ v ∷ drop (suc k) (take total list)
    here = drop-cons (take total list) k 0 (omega (arith, length-take total list, g.long, g.few)) ∙ ap (λ (x : ℕ). x ∷ drop (suc k) (take total list)) (get_or-take total list k 0 h)

    next_in : Between (at low v) (at fired v) (at high v) → between (at low) (at high) (at fired) (drop k (take total list)) ≡ v ∷ between (at low) (at high) (one_more_of v (at fired)) (drop (suc k) (take total list))
    next_in b = rw here (between_in (at low) (at high) (at fired) v (drop (suc k) (take total list)) b)

    next_out : (Between (at low v) (at fired v) (at high v) → ⊥) → between (at low) (at high) (at fired) (drop k (take total list)) ≡ between (at low) (at high) (one_more_of v (at fired)) (drop (suc k) (take total list))
    next_out n = rw here (between_out (at low) (at high) (at fired) v (drop (suc k) (take total list)) n)

    one_more : at (set fired v (at fired v + 1)) ≡ one_more_of v (at fired)
    one_more = fired_one_more fired v (omega (arith, g.stations k h, z.wide))

    few_more : (w : ℕ) → at (set fired v (at fired v + 1)) w ≤ k + 1
    few_more w = omega (arith, ap (λ (F : ℕ → ℕ). F w) one_more, go (ℕ_discrete w v))
      where
        go : (x : Dec (w ≡ v)) → at fired w + whenever x 1 ≤ k + 1
        go (yes x) = omega (arith, z.few w)
        go (no x) = omega (arith, z.few w)

    pub gathered_one : Between (at low v) (at fired v) (at high v) → Gathered (set order place v) (set fired v (at fired v + 1)) (place + 1) (k + 1)
    gathered_one b = record {
      wide = simp length-set z.wide;
      room = simp length-set z.room;
      few = few_more;
      got = z.got ++ (v ∷ []);
      behind = omega (arith, z.behind, length-append z.got (v ∷ []));
      stored = rw (z.stored, z.behind) (put_one_more before from z.got v);
      still = rw (one_more, add-one) (append_assoc z.got (v ∷ []) _ ∙ ap (λ (x : List ℕ). z.got ++ x) (sym (next_in b)) ∙ z.still);
    }

    pub gathered_none : (Between (at low v) (at fired v) (at high v) → ⊥) → Gathered order (set fired v (at fired v + 1)) place (k + 1)
    gathered_none n = record {
      wide = simp length-set z.wide;
      room = z.room;
      few = few_more;
      got = z.got;
      behind = z.behind;
      stored = z.stored;
      still = rw (one_more, add-one) (ap (λ (x : List ℕ). z.got ++ x) (sym (next_out n)) ∙ z.still);
    }

    -- there is room for an entry that is stored
    pub has_room : Between (at low v) (at fired v) (at high v) → place < 256
    has_room b =
        let l = ap length (ap (λ (x : List ℕ). z.got ++ x) (sym (next_in b)) ∙ z.still) in
        omega (arith, z.behind, l, length-append z.got (v ∷ between (at low) (at high) (one_more_of v (at fired)) (drop (suc k) (take total list))), g.fits)

  -- after the last entry
  pub all_gathered : Gatherable total low high list from before → {order fired : List ℕ} {place : ℕ} → Gathered order fired place total
      → (place ≡ from + length (between (at low) (at high) none_fired (take total list))) × (order ≡ put before from (between (at low) (at high) none_fired (take total list)))
  all_gathered g {fired = fired} z =
      let e : drop total (take total list) ≡ [] = drop_of_length-le (take total list) {i = total} (omega (arith, length-take total list)) in
      let all : z.got ≡ between (at low) (at high) none_fired (take total list) = rw (e, between_none (at low) (at high) (at fired), append-nil) at z.still in
      (rw (← all) z.behind, rw (← all) z.stored)
