use mathlib.Core.Bool.{true, false}
use Rattle.std.proofs.Common.{rules, tests}
use Rattle.std.proofs.lemmas.Iterator.{first_from_Range}
use Rattle.balance.proofs.SpoilLaws.{AgreesAt, spoiled_by}
use Rattle.balance.proofs.spoiling.spoiled.Goals as goal

pub returns : goal.returns
returns c =
    let t = c.args.chain.now in
    let r = c.reach-tree.result in
    let At = AgreesAt t.source t.sink t.produced t.consumed r.place r.steps in
    spoiled_by t.n t.m t.source t.sink t.produced t.consumed t.fits r.place r.steps r.fits c.reach-tree.ensures c.find.result
    (first_from_Range _ _ _ _ (λ e. At e false) (λ e. At e true) c.find.ensures.ran (λ x q k. search (rules, tests)) (λ x q k. (search rules, search (rules, tests))))
