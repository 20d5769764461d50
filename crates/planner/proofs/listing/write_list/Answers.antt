use Rattle.planner.proofs.ListingLaws.{list_written}
use Rattle.planner.proofs.listing.write_list.Goals as goal

pub returns : goal.returns
returns c =
    let p = c.requires in
    list_written p.0.wants c.fire_list.ensures p.1.0 p.1.1
