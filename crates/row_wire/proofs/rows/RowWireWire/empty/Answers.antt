use Rattle.std.proofs.Common.{arith}
use Rattle.row_wire.proofs.RowLaws.{sound_empty}
use Rattle.row_wire.proofs.rows.RowWireWire.empty.Goals as goal

pub invariant_of-self : goal.invariant_of-self
invariant_of-self c = let ended = c.loop-ring.invariant in record { sound = sound_empty c.loop-ring.ring-items (λ k lt. ended.1 k (omega (arith, ended.0))) ended.0 }
