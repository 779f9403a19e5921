use Rattle.std.proofs.Common.{◌≡◌, ◌≤◌, length, take}
use Rattle.events.specs.Fields.{longest}
use Rattle.records.specs.Tables.{masks_of}
use Rattle.events.specs.Writing.{stream_of}
use Rattle.events.proofs.writer.stream_len.Given as goal

abbrev pub invariant-loop-event : goal.invariant-loop-event
invariant-loop-event l = (l.len ≡ length (stream_of (masks_of l.table) (take l.event-index l.events))) × (l.len ≤ longest)
