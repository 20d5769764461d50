-- No second part meets the dispatcher's contract.
use Prim.Native.Nat.{ℕ}
use mathlib.Core.Path.{◌≡◌, sym, ◌∙◌}
use Rattle.dispatch.specs.Handed.{Lent, Handed}

-- Neither other contents nor another place. The name of a lent list is there for proofs alone, and no program can tell two apart.
pub rest_unique : (start round : Lent) (done : ℕ) (rest rest' : Lent) → Handed start round done rest → Handed start round done rest' → (rest.now ≡ rest'.now) × (rest.ref_ptr ≡ rest'.ref_ptr)
rest_unique start round done rest rest' h h' = (h.holds ∙ sym h'.holds, h.lies ∙ sym h'.lies)
