use Rattle.std.proofs.Common.{◌≡◌, take}
use Rattle.records.specs.Tables.{masks_of}
use Rattle.events.proofs.writer.encode_table.Given as goal

abbrev pub invariant-loop-port : goal.invariant-loop-port
invariant-loop-port l = l.masks.items ≡ take l.port (masks_of l.table)
