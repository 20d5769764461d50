use mathlib.Core.Path.{refl}
use Rattle.sheet.specs.Write.{handed_sheet}
use Rattle.sheet.proofs.WriteLaws.{writable, all_written}
use Rattle.sheet.proofs.writer.write.Goals as goal

pub returns : goal.returns
returns c =
    let ok = writable (handed_sheet c.args.fields.now) c.in_ok-length.ensures.verdict refl in
    record {
      judged = c.in_ok-length.ensures;
      accepted = all_written (handed_sheet c.args.fields.now) _ ok.fits c.put_header.ensures c.put_stations.ensures c.put_queues.ensures;
      refused = tt;
    }
