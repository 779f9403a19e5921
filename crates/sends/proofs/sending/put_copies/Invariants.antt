use Rattle.wires.specs.Growths.{Grown}
use Rattle.wires.proofs.Growths.{below}
use Rattle.sends.proofs.Copies.{copies}
use Rattle.sends.proofs.sending.put_copies.Given as goal

abbrev pub invariant-loop-to : goal.invariant-loop-to
invariant-loop-to g l = let m = g.W.Wire in Grown (m.line l.initial.wire) (m.line l.wire) (below l.to (copies l.port l.notice))
