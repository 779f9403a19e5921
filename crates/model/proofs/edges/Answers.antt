use Rattle.model.proofs.EdgeCases.{edges}
use Rattle.model.proofs.edges.Goals as goal

pub returns : goal.returns
returns c = edges
