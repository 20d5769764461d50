use native.Mathlib.Omega.{arith}
use borrow.Author.Rules.{rules}
use lib.ListN.{length-set}
use Rattle.lists.proofs.FrontLaws.{front_none, front_more}
use Rattle.little.specs.Little.{column_at}
use Rattle.little.proofs.column.Goals as goal

pub loop-i-init : goal.loop-i-init
loop-i-init c = (search rules, (search rules, front_none _ _))

pub loop-i-preserved : goal.loop-i-preserved
loop-i-preserved c =
    let a = c.args in (
      search rules,
      (
        simp length-set (search rules),
        cc (front_more c.loop-i.i (column_at a.s.now a.base a.step) a.out.now (omega arith)),
      ),
    )
