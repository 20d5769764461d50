use Rattle.std.proofs.Common.{refl}
use Rattle.lists.proofs.FilledLaws.{filled_none}
use Rattle.search.proofs.raise.raised.Goals as goal

pub loop-v-init : goal.loop-v-init
loop-v-init c = (refl, filled_none 32)
