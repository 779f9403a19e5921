use Rattle.std.proofs.Common.{arith, rules}
use Rattle.records.specs.declared.notice.Record.TheVariants.{Empty}
use Rattle.wires.specs.Growths.{SendAnswers}
use Rattle.sends.proofs.Rooms.{send_by_room}
use Rattle.sends.proofs.sending.send_clearance.Goals as goal

pub returns : goal.returns
returns g c =
    let m = g.W.Wire in
    let stamp = c.args.stamp in
    let mask = c.args.to.bits in
    let sent : SendAnswers m.line m.depth c.args.wire.now c.send.new.wire stamp.port mask (Empty stamp) c.send.result = search rules in
    send_by_room m.line m.depth c.args.wire.now c.send.new.wire stamp.port mask (Empty stamp) c.send.result (omega arith) sent
