use mathlib.Core.Path.{refl}
use borrow.Author.Rules.{rules}
use Rattle.lists.proofs.PutLaws.{wrote_none, wrote_part}
use Rattle.sheet.specs.Format.{station_bytes}
use Rattle.sheet.proofs.FormatLaws.{length_station}
use Rattle.sheet.proofs.writer.put_stations.Goals as goal

pub loop-i-init : goal.loop-i-init
loop-i-init c = (refl, wrote_none _ _ 4 _)

pub loop-i-preserved : goal.loop-i-preserved
unfolding station_bytes
loop-i-preserved c =
    let l = c.loop-i in
    let f = c.args.fields.now in (
      search rules,
      wrote_part 4 (station_bytes f.tag.now f.time.now) l.i (length_station f.tag.now f.time.now l.i) l.invariant.1 refl c.put_station.ensures,
    )
