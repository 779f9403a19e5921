-- What a row wire means. Assumes nothing.
use Rattle.wires.specs.Lines.{Lines}
use Rattle.row_wire.specs.declared.rows.RowWire.{RowWire}
use Rattle.row_wire.specs.Rows.{lines_of}

abbrev pub row_lines : RowWire → Lines
row_lines w = lines_of w.rings
