use Prim.Native.Nat.{ℕ}
use Rattle.std.proofs.Common.{rules, tests, arith}
use Rattle.std.proofs.lemmas.Iterator.{first_from_Range}
use Rattle.lists.specs.Front.{at}
use Rattle.counts.specs.Raising.{Balanced}
use Rattle.counts.proofs.FindLaws.{first_failing}
use Rattle.counts.proofs.raising.lowest_unmet.Goals as goal

pub returns : goal.returns
returns c =
    let t = c.args.chain.now in
    let P : ℕ → Type 0 = Balanced t.source t.sink t.produced t.consumed (at c.args.q.now) in
    first_failing c.find.result (first_from_Range _ _ _ _ (λ e. P e → ⊥) P c.find.ensures.ran (λ x q k. grind (arith, tests)) (λ x q k. (search rules, grind (arith, tests))))
