use Rattle.wires.specs.Growths.{Grown, to_each}
use Rattle.wires.proofs.Growths.{below}
use Rattle.wires.proofs.sending.put_on_each.Given as goal

abbrev pub invariant-loop-end : goal.invariant-loop-end
invariant-loop-end g l =
    let m = g.W.Wire in
    Grown (m.line l.initial.wire) (m.line l.wire) (below l.end (to_each l.from l.to.bits l.record))
