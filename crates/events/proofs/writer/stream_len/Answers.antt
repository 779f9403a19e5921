use Rattle.std.proofs.Common.{◌+◌, length, ap, arith}
use Rattle.records.specs.Tables.{masks_of}
use Rattle.events.proofs.Puts.{stream_length_more, stream_part}
use Rattle.events.proofs.writer.stream_len.Goals as goal

pub returns-then-len-gt-LONGEST : goal.returns-then-len-gt-LONGEST
returns-then-len-gt-LONGEST c =
    let masks = masks_of c.args.table.now in
    let es = c.args.events.now in
    let i = c.loop-event.event-index in
    let more = stream_length_more masks es i c.loop-event-test.true in
    let part = stream_part masks es (i + 1) in
    omega (arith, c.len-len-in-loop-event.ensures.value, ap length c.encode.ensures.bytes)

pub loop-event-preserved : goal.loop-event-preserved
loop-event-preserved c =
    let more = stream_length_more (masks_of c.args.table.now) c.args.events.now c.loop-event.event-index c.loop-event-test.true in
    let one = ap length c.encode.ensures.bytes in
    (omega arith, omega arith)
