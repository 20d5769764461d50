use Rattle.refusals.specs.declared.refusal.Refusal.TheVariants.{Apart, CountsFail, Unbalanced}
use Rattle.refusals.proofs.RefusedLaws.{refused}
use Rattle.counts.proofs.RowLaws.{counted_chain}
use Rattle.checks.proofs.CheckLaws.{apart_refused, chain_joined, spoiled_refused, uncounted_refused, counts_are, counted_judged, round_of}
use Rattle.checks.proofs.judge.chained.Goals as goal

pub returns-then-not-joined : goal.returns-then-not-joined
returns-then-not-joined c = refused Apart (apart_refused _ c.joined.ensures c.if-not-joined.true)

pub spoiled-requires : goal.spoiled-requires
spoiled-requires c = chain_joined c.args.sheet.now c.new-chain.ensures (c.joined.ensures.holds c.if-not-joined.false)

pub returns-in-Some-spoiled : goal.returns-in-Some-spoiled
returns-in-Some-spoiled c = refused (Unbalanced _) (spoiled_refused _ c.new-chain.ensures (c.joined.ensures.holds c.if-not-joined.false) _ c.in-Some-spoiled.ensures)

pub returns-in-None : goal.returns-in-None
returns-in-None c = refused CountsFail (uncounted_refused _ c.new-chain.ensures (c.joined.ensures.holds c.if-not-joined.false) c.in_default.ensures c.in-None.ensures)

pub new-requires : goal.new-requires
new-requires c = counted_chain c.new-chain.result.fits c.in-Some.ensures

pub fired-requires : goal.fired-requires
fired-requires c = (c.requires, round_of _ c.new-chain.ensures c.new.ensures (counts_are _ c.new-chain.ensures c.in-Some.ensures))

pub returns : goal.returns
returns c = counted_judged _ c.new-chain.ensures (c.joined.ensures.holds c.if-not-joined.false) c.in-Some.ensures c.fired.ensures
