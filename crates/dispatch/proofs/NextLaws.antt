-- What the dispatcher is handed is what comes next.
use Prim.Native.Nat.{ℕ, suc, ◌+◌, ◌-◌, ◌/◌, ◌≤◌, ◌<◌}
use mathlib.Core.Path.{◌≡◌, sym, ap, ◌∙◌}
use mathlib.Core.List.{List, ◌++◌}
use lib.ListN.{length, drop}
use Rattle.dataflow.specs.Lists.{repeated}
use Rattle.dataflow.proofs.DispatchLaws.{part_in_start, part_in_round}
use Rattle.dispatch.specs.Handed.{Lent, Handed}

module _ {start round rest : Lent} {done : ℕ} (h : Handed start round done rest) where
  -- While the start list isn't done, what is still to be fired begins with the part; whatever follows the start list follows it.
  pub next_in_start : (l : List ℕ) → done < length start.now → drop done (start.now ++ l) ≡ rest.now ++ l
  next_in_start l b = part_in_start start.now round.now l done b ∙ ap (λ (x : List ℕ). x ++ l) (sym h.holds)

  -- After that too: where the round list is fired over and over, the part is the rest of the round that the firings done end in, and m whole rounds follow.
  pub next_in_round : (m : ℕ) → length start.now ≤ done → 1 ≤ length round.now
      → drop done (start.now ++ repeated ((done - length start.now) / length round.now + suc m) round.now) ≡ rest.now ++ repeated m round.now
  next_in_round m b pos = part_in_round start.now round.now done m b pos ∙ ap (λ (x : List ℕ). x ++ repeated m round.now) (sym h.holds)
