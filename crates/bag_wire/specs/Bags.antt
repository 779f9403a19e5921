-- What a bag wire means. Assumes nothing.
use Rattle.std.specs.Prelude.{take}
use Rattle.wires.specs.Lines.{Lines}
use Rattle.bag_wire.specs.declared.bag.BagWire.{BagWire}
use Rattle.bag_wire.specs.Journals.{lines_in}

abbrev pub bag_lines : BagWire → Lines
bag_lines w = lines_in (take w.len w.entries)
