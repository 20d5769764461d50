use Rattle.search.proofs.OrderLaws.{second_fits, first_fits, reordered}
use Rattle.search.proofs.order.reorder.Goals as goal

pub gather-place-requires : goal.gather-place-requires
gather-place-requires c = second_fits c.requires c.kept-keep.ensures

pub gather-requires : goal.gather-requires
gather-requires c =
    first_fits c.requires c.kept-keep.ensures c.gather-place.ensures.0 c.gather-place.ensures.1

pub returns : goal.returns
returns c =
    reordered c.requires c.kept-keep.ensures c.gather-place.ensures.0 c.gather-place.ensures.1 c.gather.ensures.1
