-- The laws of entries that are lifted.
use Prim.Native.Nat.{ℕ, ◌<◌, max}
use mathlib.Core.Path.{◌≡◌, ap, ◌∙◌}
use mathlib.Core.List.{List}
use native.Mathlib.Decide.{ℕ_discrete}
use lib.ListN.{length, set, length-set}
use lib.Seq.{get_or-set_same, get_or-set_other}
use Rattle.lists.specs.Front.{at}
use Rattle.rooms.specs.Lifted.{Lifted}

module _ {P : ℕ → ℕ → Type 0} where
  -- one more is lifted, at the place e that comes to the others
  pub lifted_more : {Place Place' : ℕ → Type 0} {before now : List ℕ} (e x y : ℕ) → e < length now → ¬ Place e → Place' e → ((k : ℕ) → Place k → Place' k) → ((k : ℕ) → Place' k → ¬ (k ≡ e) → Place k)
      → P e x → y ≡ max (at now e) x → Lifted Place P before now → Lifted Place' P before (set now e y)
  lifted_more {now = now} e x y h new here kept others p is r = record {
    long = simp length-set r.long;
    is = λ k a. elim (ℕ_discrete k e) [
      | yes w ↦ rw w (x, p, get_or-set_same now e y 0 h ∙ is ∙ ap (λ (z : ℕ). max z x) (r.rest e new))
      | no w ↦ let i = r.is k (others k a w) in (i.0, i.1, get_or-set_other now e k y 0 w ∙ i.2)
    ];
    rest = λ k a. get_or-set_other now e k y 0 (λ w. a (rw w here)) ∙ r.rest k (λ b. a (kept k b));
  }
