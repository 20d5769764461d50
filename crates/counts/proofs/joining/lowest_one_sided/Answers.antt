use Prim.Native.Nat.{ℕ}
use Rattle.std.proofs.Common.{rules, tests, arith}
use Rattle.std.proofs.lemmas.Iterator.{first_from_Range}
use Rattle.counts.specs.Joining.{OneSide}
use Rattle.counts.proofs.FindLaws.{first_failing}
use Rattle.counts.proofs.joining.lowest_one_sided.Goals as goal

pub returns : goal.returns
returns c =
    let P : ℕ → Type 0 = OneSide c.args.source.now c.args.sink.now c.args.marked.now in
    first_failing c.find.result (first_from_Range _ _ _ _ (λ e. P e → ⊥) P c.find.ensures.ran (λ x q k. grind (arith, tests)) (λ x q k. (search rules, grind (arith, tests))))
