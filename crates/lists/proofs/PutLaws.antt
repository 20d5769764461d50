-- The laws of a list with another stored into it.
use Prim.Native.Nat.{ℕ, suc, ◌+◌, ◌-◌, ◌*◌, ◌≤◌}
use mathlib.Core.Path.{◌≡◌, refl, sym, ◌∙◌}
use mathlib.Core.List.{List, [], ◌∷◌, ◌++◌, append_assoc}
use native.Mathlib.Nat.{add-zero, add-suc, suc-add, zero-add, mul-zero, mul-add, mul-one}
use native.Mathlib.Omega.{arith}
use lib.ListN.{length, drop, set, length-append}
use lib.Seq.{sets-eq, length-sets}
use borrow.Rule.Slice.PartMut.{put_mid}
use Rattle.std.proofs.lemmas.List.Edits.{paste_all}
use Rattle.std.proofs.lemmas.Slice.{put_mid-paste}
use Rattle.lists.specs.Put.{put, Wrote}
use Rattle.lists.specs.Joined.{joined}
use Rattle.lists.proofs.JoinedLaws.{joined_more}

-- one list behind another
pub put_append : (l : List ℕ) (i : ℕ) (v w : List ℕ) → put (put l i v) (i + length v) w ≡ put l i (v ++ w)
unfolding put
put_append l i [] w = rw add-zero
put_append l i (x ∷ v) w = rw (add-suc, ← suc-add) (put_append (set l i x) (suc i) v w)

pub length_put : (l : List ℕ) (i : ℕ) (v : List ℕ) → length (put l i v) ≡ length l
unfolding put
length_put l i v = length-sets l i v

-- nothing
pub put_nothing : (l : List ℕ) (i : ℕ) → l ≡ put l i []
unfolding put
put_nothing l i = refl

-- one entry behind a list
pub put_one_more : (l : List ℕ) (i : ℕ) (v : List ℕ) (x : ℕ) → set (put l i v) (i + length v) x ≡ put l i (v ++ (x ∷ []))
unfolding put
put_one_more l i v x = put_append l i v (x ∷ [])

-- from the first entry on
pub put_front : (l v : List ℕ) → length v ≤ length l → put l 0 v ≡ v ++ drop (length v) l
unfolding put
put_front l v h = rw (sets-eq v l 0 (rw zero-add h), zero-add)

-- a part of k entries, lent to be filled with v
pub put_lent : (l : List ℕ) (i k : ℕ) (v now : List ℕ) → now ≡ v → length v ≡ k → i + k ≤ length l → put_mid i (i + k - i) l now ≡ put l i v
unfolding put
put_lent l i k v now e long h =
    put_mid-paste i (i + k - i) l now v k e (omega arith) (sym long)
    ∙ paste_all l i v k (sym long)
    ∙ rw (sets-eq v l i (rw long h), long, append_assoc)

-- after one more list of known length
pub wrote : {l v after : List ℕ} {i k : ℕ} → after ≡ put l i v → length v ≡ k → Wrote l i v k after
wrote e h = record { is = e; long = h }

-- and after another behind it
pub wrote_more : {l v before after : List ℕ} {i k j place : ℕ} (w : List ℕ) → Wrote l i v k before → place ≡ i + k → after ≡ put before place w → length w ≡ j → Wrote l i (v ++ w) (k + j) after
wrote_more {l} {v} {i = i} w b p e h =
    record { is = rw (e, b.is, p, ← b.long) (put_append l i v w); long = rw (length-append, b.long, h) }

-- before the first of parts
pub wrote_none : (l : List ℕ) (i size : ℕ) (part : ℕ → List ℕ) → Wrote l i (joined 0 part) (size * 0) l
unfolding joined put
wrote_none l i size part = record { is = refl; long = sym (mul-zero size) }

-- and after one more of parts of one length
pub wrote_part : {l before after : List ℕ} {i place : ℕ} (size : ℕ) (part : ℕ → List ℕ) (n : ℕ) → length (part n) ≡ size → Wrote l i (joined n part) (size * n) before → place ≡ i + size * n → after ≡ put before place (part n) → Wrote l i (joined (n + 1) part) (size * (n + 1)) after
wrote_part size part n h b p e = rw (← joined_more n part, mul-add, mul-one) (wrote_more (part n) b p e h)
