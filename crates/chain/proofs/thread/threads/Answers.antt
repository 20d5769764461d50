use Prim.Native.Nat.{suc, ◌-◌, ◌<◌}
use mathlib.Core.Path.{◌≡◌, refl}
use native.Mathlib.Omega.{arith}
use lib.ListN.{length-set, get_or-replicate}
use borrow.Author.Rules.{rules}
use Rattle.lists.specs.Front.{at}
use Rattle.chain.proofs.ThreadLaws.{none_threaded, one_more_threaded, all_threaded}
use Rattle.chain.proofs.thread.threads.Goals as goal

pub loop-e-init : goal.loop-e-init
loop-e-init c = (
  search rules,
  (
    refl,
    (
      refl,
      none_threaded 32 c.args.m c.args.ends.now _ _ (λ v b. get_or-replicate 32 v c.args.m 0 b) (λ e h b. get_or-replicate 64 e c.args.m 0 b),
    ),
  ),
)

pub bounds-head-v : goal.bounds-head-v
bounds-head-v c =
    let enters : at c.args.ends.now (c.loop-e.e - 1) < c.args.n = c.requires.1.1 _ (omega arith) in
    omega (arith, enters)

pub bounds-head-v-in-loop-e : goal.bounds-head-v-in-loop-e
bounds-head-v-in-loop-e c =
    let enters : at c.args.ends.now (c.loop-e.e - 1) < c.args.n = c.requires.1.1 _ (omega arith) in
    omega (arith, enters)

pub loop-e-preserved : goal.loop-e-preserved
loop-e-preserved c =
    let enters : at c.args.ends.now (c.loop-e.e - 1) < c.args.n = c.requires.1.1 _ (omega arith) in
    let l = c.loop-e in
    let left : l.e ≡ suc (l.e - 1) = omega arith in
    let t = one_more_threaded 32 c.args.m c.args.ends.now l.head l.next (l.e - 1) (omega arith) (omega (arith, enters, c.requires.0)) (rw left at l.invariant.1.1.1) (omega arith) (omega (arith, c.requires.1.0)) in
    (search rules, (simp length-set (search rules), (simp length-set (search rules), rw c.from-v.ensures t)))

pub returns : goal.returns
returns c =
    let l = c.loop-e in
    let none : l.e ≡ 0 = omega arith in
    all_threaded c.args.n 32 c.args.m _ _ _ c.requires.0 c.requires.1.1 (rw none at l.invariant.1.1.1) refl
