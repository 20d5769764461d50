use mathlib.Core.Path.{◌≡◌, refl, ◌∙◌}
use native.Mathlib.Omega.{arith}
use lib.ListN.{length-set}
use borrow.Author.Rules.{rules}
use Rattle.lists.specs.Front.{at}
use Rattle.lists.proofs.StoreLaws.{at_zeros}
use Rattle.dataflow.proofs.SumLaws.{sum_before}
use Rattle.chain.proofs.BaseLaws.{bases_more}
use Rattle.chain.proofs.round.bases.Goals as goal

pub loop-v-init : goal.loop-v-init
loop-v-init c = (search rules, (refl, record { is = λ v l. at_zeros 33 v ∙ (let e : v ≡ 0 = omega arith in rw e); rest = λ v l. at_zeros 33 v }))

pub overflow_add-base : goal.overflow_add-base
overflow_add-base c =
    omega (arith, c.loop-v.invariant.1.1.is c.loop-v.v (omega arith), sum_before (at c.args.q.now) c.loop-v.v c.args.n (omega arith), c.requires.1)

pub loop-v-preserved : goal.loop-v-preserved
loop-v-preserved c = (search rules, (simp length-set (search rules), bases_more _ _ _ (omega arith) c.loop-v.invariant.1.1))

pub returns : goal.returns
returns c = let e : c.loop-v.v ≡ c.args.n = omega arith in rw e at c.loop-v.invariant.1.1
