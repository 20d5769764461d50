-- No second answer meets a contract.
use Prim.Native.Nat.{ℕ}
use mathlib.Core.Path.{◌≡◌, sym, ◌∙◌}
use mathlib.Core.List.{List}
use mathlib.Core.Logic.{⊎_elim}
use Rattle.lists.specs.Front.{at}
use Rattle.std.specs.Prelude.{Option}
use Rattle.lists.specs.Lowest.{FirstFailing}
use Rattle.lists.proofs.LowestLaws.{first_failing_once}
use Rattle.balance.specs.declared.reaching.Seen.{Seen}
use Rattle.balance.specs.Tree.{SeenFrom, Sees}
use Rattle.balance.specs.Spoiled.{Balanceable}

-- of the queue that spoils the balance
pub spoiled_unique : (n m : ℕ) (source sink produced consumed : List ℕ) (r r' : Option ℕ) → FirstFailing (Balanceable n m source sink produced consumed) m r → FirstFailing (Balanceable n m source sink produced consumed) m r' → r ≡ r'
spoiled_unique n m source sink produced consumed = first_failing_once

-- of a queue as a station at one of its ends sees it
module _ (source sink produced consumed : List ℕ) (k v : ℕ) (apart : at source k ≡ at sink k → ⊥) (r r' : Seen) where
  same_side : {near_end far_end near_rate far_rate : List ℕ} → SeenFrom near_end far_end near_rate far_rate k v r → SeenFrom near_end far_end near_rate far_rate k v r' → r ≡ r'
  same_side p q =
      let s = p.station ∙ sym q.station in
      let n = p.near ∙ sym q.near in
      let f = p.far ∙ sym q.far in
      λ i. record { station = s i; near = n i; far = f i }

  pub sees_unique : Sees source sink produced consumed k v r → Sees source sink produced consumed k v r' → r ≡ r'
  sees_unique p q =
      ⊎_elim
      (λ a. ⊎_elim (λ b. same_side a b) (λ b. absurd (apart (sym a.end ∙ b.end))) q)
      (λ a. ⊎_elim (λ b. absurd (apart (sym b.end ∙ a.end))) (λ b. same_side a b) q)
      p
