use Rattle.std.proofs.Common.{arith}
use Rattle.planner.proofs.ListingLaws.{first_written}
use Rattle.planner.proofs.listing.write_times.Goals as goal

pub returns : goal.returns
returns c = rw c.copy_from_slice.ensures.after (first_written c.args.total c.args.table.now c.args.times.now (omega arith))
