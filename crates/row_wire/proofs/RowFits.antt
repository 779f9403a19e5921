-- No ring of a row holds more than sixteen records, nor a line more than its depth. Assumes nothing.
use Rattle.std.specs.Prelude.{ℕ, ◌≤◌, [], length, slice_index_or}
use Rattle.wires.specs.Lines.{depth_of}
use Rattle.row_wire.specs.Rows.{held_at}
use Rattle.row_wire.specs.Fits.{line_fits}
use Rattle.row_wire.specs.declared.rows.RowWire.{RowWire}

pub each_fits : (w : RowWire) (k : ℕ) → length (slice_index_or w.rings k []) ≤ 16
each_fits w k = w.sound k

pub row_fits : (w : RowWire) (p q : ℕ) → length (held_at w.rings p q) ≤ depth_of 16 p q
row_fits w p q = line_fits w.rings w.sound p q
