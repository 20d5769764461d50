use mathlib.Core.Path.{◌≡◌, refl}
use native.Mathlib.Omega.{arith}
use lib.ListN.{length}
use Rattle.rooms.proofs.FiredLaws.{none_fired_lem, here, stretch_fired, small, all_put, peaks_none, peaks_more}
use Rattle.rooms.proofs.lift.lift_over.Goals as goal

pub loop-k-init : goal.loop-k-init
loop-k-init c = record {
  within = omega arith;
  long = c.told-room;
  so_far = none_fired_lem _ _ _ _ _ _ _ _ _;
  lifted = peaks_none _ _ _ _ _ _ _ _ _ c.requires.0 c.requires.1;
}

pub bounds-fired-v : goal.bounds-fired-v
bounds-fired-v c = omega (arith, here _ _ _ _ _ _ _ _ _ c.requires.0 c.loop-k.k c.loop-k-test.true, c.args.chain.now.fits.few)

pub bounds-fired-v-in-loop-k : goal.bounds-fired-v-in-loop-k
bounds-fired-v-in-loop-k c = omega (arith, here _ _ _ _ _ _ _ _ _ c.requires.0 c.loop-k.k c.loop-k-test.true, c.args.chain.now.fits.few)

pub lift_from-requires : goal.lift_from-requires
lift_from-requires c =
    let o = c.requires.0 in
    let end = c.stretch_end-end.result in
    let within = c.stretch_end-end.ensures.within in
    let so_far = stretch_fired _ _ _ _ _ _ _ _ _ o c.stretch_end-end.ensures c.args.chain.now.fits.few c.loop-k.invariant.so_far in
    rw c.from-v.ensures (small _ _ _ _ _ _ _ _ _ o end within so_far, (all_put _ _ _ _ _ _ _ _ _ o end within so_far, here _ _ _ _ _ _ _ _ _ o c.loop-k.k c.loop-k-test.true))

pub loop-k-preserved : goal.loop-k-preserved
loop-k-preserved c =
    let o = c.requires.0 in
    let inv = c.loop-k.invariant in
    let stretch = c.stretch_end-end.ensures in
    let more = stretch_fired _ _ _ _ _ _ _ _ _ o stretch c.args.chain.now.fits.few inv.so_far in
    let lifted = rw c.from-v.ensures at c.lift_from.ensures in
    record {
      within = stretch.within;
      long = omega (arith, lifted.long, inv.long);
      so_far = rw c.from-v.ensures more;
      lifted = peaks_more _ _ _ _ _ _ _ _ _ o stretch more refl inv.lifted lifted;
    }

pub returns : goal.returns
returns c =
    let all : c.loop-k.k ≡ length c.args.list.now = omega arith in
    rw all at c.loop-k.invariant.lifted
