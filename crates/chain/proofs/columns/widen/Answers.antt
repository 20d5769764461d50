use mathlib.Core.Path.{◌≡◌}
use native.Mathlib.Omega.{arith}
use lib.ListN.{length, length-set}
use borrow.Author.Rules.{rules}
use Rattle.lists.proofs.FrontLaws.{front_none, front_more}
use Rattle.lists.specs.Front.{at}
use Rattle.chain.proofs.ColumnLaws.{front_all}
use Rattle.chain.proofs.columns.widen.Goals as goal

pub loop-i-init : goal.loop-i-init
loop-i-init c = (search rules, (search rules, front_none _ _))

pub loop-i-preserved : goal.loop-i-preserved
loop-i-preserved c =
    let a = c.args in (
      search rules,
      (
        simp length-set (search rules),
        cc (front_more c.loop-i.i (at a.from.now) a.to.now (omega arith)),
      ),
    )

pub returns : goal.returns
returns c = let h : c.loop-i.i ≡ length c.args.from.now = omega arith in cc (front_all c.args.from.now c.args.to.now (search rules))
