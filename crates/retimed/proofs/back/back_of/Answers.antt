use Rattle.std.proofs.Common.{rules, tests, arith, ◌≡◌, ◌∙◌, ℕ, ◌≤◌, List, take, map, max, sym, Bor, Iter}
use Rattle.std.specs.List.{reduce, zip}
use Rattle.std.specs.Iterator.Adapters.{take_source, take_count, take_steps, zip_first, zip_second}
use Rattle.std.specs.Slice.Iter.{iter_rest}
use Rattle.std.specs.declared.iter.Zip.{Zip}
use Rattle.std.specs.declared.iter.Take.{Take}
use Rattle.std.proofs.iter.Yields.{fronts}
use Rattle.std.proofs.lemmas.Iterator.{YieldsList, zips, YieldsList-from_slice, YieldsList-from_map, YieldsList-from_zip, YieldsList-from_take}
use Rattle.std.proofs.lemmas.Iterator.Consumers.{YieldsList-at, max_from_yields_List}
use Rattle.std.proofs.lemmas.Iterator.Adapters.{serves_from_places, option_map_id}
use Rattle.retimed.proofs.BackLaws.{rounds, count_of_pair, largest, back_front}
use Rattle.retimed.proofs.back.back_of.Goals as goal

-- what the closure is given, one after the other
pairs_given : {s : Iter ℕ} {z : Zip (Iter ℕ) (Iter ℕ)} {t u : Take (Zip (Iter ℕ) (Iter ℕ))} (n : ℕ) (retiming q : List ℕ)
    → iter_rest s ≡ retiming → zip_first z ≡ s → iter_rest (zip_second z) ≡ q → take_source t ≡ z → take_count t ≡ n → u ≡ t
    → YieldsList (take_steps (zips fronts fronts)) (λ (p : Bor ℕ × Bor ℕ). (p.0.now, p.1.now)) u (take n (zip retiming q))
pairs_given n retiming q of_r first second of_z count of_t =
    YieldsList-at of_t (YieldsList-from_take n (YieldsList-at of_z (YieldsList-from_zip (YieldsList-at first (YieldsList-from_slice retiming of_r)) (YieldsList-from_slice q second))) count)

pub max-requires-clause-can : goal.max-requires-clause-can
max-requires-clause-can c =
    let a = c.args in
    let pairs = pairs_given a.n a.retiming.now a.q.now c.iter.ensures.rest c.zip.ensures.first c.zip.ensures.second.0 c.take.ensures.source c.take.ensures.count c.map.ensures.source in
    ((tt, tt), serves_from_places pairs (λ x q r. search (rules, tests)) (λ x k b here. let some : 1 ≤ x.1.now = count_of_pair a.n a.q.now a.retiming.now c.requires.positive k (x.0.now, x.1.now) b here in search rules))

pub returns : goal.returns
returns c =
    let a = c.args in
    let pairs = pairs_given a.n a.retiming.now a.q.now c.iter.ensures.rest c.zip.ensures.first c.zip.ensures.second.0 c.take.ensures.source c.take.ensures.count c.map.ensures.source in
    let e : c.max.result ≡ reduce max (map rounds (take a.n (zip a.retiming.now a.q.now))) =
    sym (option_map_id c.max.result) ∙ max_from_yields_List c.map.result c.max.result c.max.ensures.ran (YieldsList-from_map _ rounds pairs c.map.ensures.closure (λ x r q k. search (rules, tests))) in
    rw (c.unwrap_or.ensures, e, largest) (back_front a.n a.q.now a.retiming.now (omega (arith, c.told-q, c.requires.few)) (omega (arith, c.told-retiming, c.requires.few)) c.requires.positive)
