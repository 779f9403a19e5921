use Rattle.std.proofs.Common.{◌≡◌, ◌++◌, length, take, drop}
use Rattle.std.specs.List.{AllByRecursion}
use Rattle.records.specs.Tables.{masks_of}
use Rattle.events.specs.Writing.{stream_of, Fit}
use Rattle.events.proofs.writer.write.Given as goal

-- the table and the events so far stand at the front
abbrev pub invariant-loop-event : goal.invariant-loop-event
invariant-loop-event l =
    (l.at ≡ length (stream_of (masks_of l.table) (take l.event-index l.events)))
    × (l.out ≡ stream_of (masks_of l.table) (take l.event-index l.events) ++ drop l.at l.fn.out)
    × AllByRecursion Fit (take l.event-index l.events)
