use Rattle.std.proofs.Common.{◌≡◌, ℕ, ◌<◌, [], length, get_or}
use Rattle.row_wire.proofs.rows.RowWireWire.empty.Given as goal

abbrev pub invariant-loop-ring : goal.invariant-loop-ring
invariant-loop-ring l = (length l.ring-items ≡ 64) × ((k : ℕ) → k < l.ring-index → get_or l.ring-items k [] ≡ [])
