use Rattle.std.proofs.Common.{rules, tests, arith, ◌≡◌, ◌∙◌, ◌≤◌, ◌<◌, ◌^◌, take, length}
use Rattle.std.specs.List.{sum_by}
use Rattle.std.proofs.iter.runs.Made.{chains}
use Rattle.std.proofs.lemmas.Iterator.{YieldsList-from_slice, YieldsList-from_map}
use Rattle.std.proofs.lemmas.Iterator.Consumers.{YieldsList-at, fits_by_from_yields_list}
use Rattle.retimed.proofs.BackLaws.{front_sum, sum_most}
use Rattle.retimed.proofs.back.add.Goals as goal

pub sum-requires-clause-fits : goal.sum-requires-clause-fits
sum-requires-clause-fits c =
    let l = c.args.firings.now in
    let front = take c.args.n l in
    let within : c.args.n ≤ length l = omega (arith, c.told-firings, c.requires.0) in
    let small : sum_by (λ x. x) front < 2 ^ 64 = omega (arith, front_sum c.args.n l within, sum_most c.args.n l c.requires.1, c.requires.0) in
    fits_by_from_yields_list (λ x. x) front c.map.result (2 ^ 64)
    (YieldsList-from_map _ (λ x. x) (YieldsList-at c.map.ensures.source (YieldsList-from_slice front c.iter.ensures.rest)) c.map.ensures.closure (λ x r q k. search (rules, tests)))
    small

pub returns : goal.returns
returns c =
    let within : c.args.n ≤ length c.args.firings.now = omega (arith, c.told-firings, c.requires.0) in
    let e : c.sum.result ≡ sum_by (λ x. x) (take c.args.n c.args.firings.now) = search (rules, chains) in
    e ∙ front_sum c.args.n c.args.firings.now within
