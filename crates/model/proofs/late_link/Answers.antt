use Rattle.model.proofs.TwoPorts.{late_link_lem}
use Rattle.model.proofs.late_link.Goals as goal

pub returns : goal.returns
returns c = late_link_lem
