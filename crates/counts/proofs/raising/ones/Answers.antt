use native.Mathlib.Omega.{arith}
use lib.ListN.{length-take}
use Rattle.counts.proofs.RaiseLaws.{filled_first}
use Rattle.counts.proofs.raising.ones.Goals as goal

pub returns : goal.returns
returns c =
    let filled = filled_first c.args.n _ _ c.requires (simp length-take (omega arith)) in
    rw (c.fill.ensures.after (λ y same. same)) (record { long = filled.0; ones = filled.1 })
