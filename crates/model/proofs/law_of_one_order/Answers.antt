use Rattle.model.proofs.Sound.{law}
use Rattle.model.proofs.law_of_one_order.Goals as goal

pub returns : goal.returns
returns c = law
