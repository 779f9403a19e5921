use Rattle.std.proofs.Common.{◌≡◌, true, take, drop}
use Rattle.wires.specs.Growths.{Grown}
use Rattle.model.specs.Batches.{copies_on}
use Rattle.model.specs.Refusals.{room}
use Rattle.sends.proofs.sending.put_batch.Given as goal

-- what is put, and room for what is left
abbrev pub invariant-loop-notice : goal.invariant-loop-notice
invariant-loop-notice g l =
    let m = g.W.Wire in
    Grown (m.line l.initial.wire) (m.line l.wire) (copies_on l.port (take l.notice-index l.notices))
    × (room m.depth (m.line l.wire) l.port (copies_on l.port (drop l.notice-index l.notices)) ≡ true)
