use Rattle.std.proofs.Common.{rules, tests, ◌∙◌, drop}
use Rattle.std.proofs.lemmas.Iterator.{YieldsList-from_slice}
use Rattle.std.proofs.lemmas.Iterator.Search.{YieldsList-from_take_while}
use Rattle.std.proofs.lemmas.Iterator.Consumers.{YieldsList-at, count_from_yields_List}
use Rattle.std.proofs.lemmas.List.Folds.{length-prefix_len}
use borrow.Author.Rules.{part_to_end}
use Rattle.rooms.proofs.StretchLaws.{alike, stretch_found}
use Rattle.rooms.proofs.lift.stretch_end.Goals as goal

pub returns : goal.returns
returns c =
    let a = c.args in
    let p = alike a.list.now a.from in
    let rest = drop a.from a.list.now in
    let slice = YieldsList-from_slice rest (c.iter.ensures.rest ∙ part_to_end a.list.now a.from) in
    let e = count_from_yields_List c.take_while.result c.count.result c.count.ensures.ran (YieldsList-from_take_while _ p (YieldsList-at c.take_while.ensures.source slice) c.take_while.ensures.closure c.take_while.ensures.done (λ x b q k. search (rules, tests))) in
    rw (e, length-prefix_len p rest) (stretch_found a.list.now a.from c.requires)
