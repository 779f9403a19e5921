use Rattle.model.specs.Batches.{sent_to}
use Rattle.model.specs.Lists.{placed_all}
use Rattle.records.specs.Keys.{decided_before}
use Rattle.ports.specs.Held.{waiting_of}
use Rattle.ports.proofs.Joining.{Joining}
use Rattle.ports.proofs.port.deciding.join.Given as goal

abbrev pub invariant-loop-d : goal.invariant-loop-d
invariant-loop-d l = Joining l.port l.notices (placed_all decided_before (sent_to l.port l.notices) (waiting_of l.initial.waiting)) l.d-index (waiting_of l.waiting)
