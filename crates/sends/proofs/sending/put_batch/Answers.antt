use Rattle.batches.proofs.Walks.{no_decided}
use Rattle.sends.proofs.Copies.{next_room, next_done}
use Rattle.sends.proofs.sending.put_batch.Goals as goal

pub put_copies-requires : goal.put_copies-requires
put_copies-requires g c =
    let m = g.W.Wire in
    next_room m.depth (m.line c.args.wire.now) (m.line c.loop-notice.wire) c.args.port c.args.notices.now c.loop-notice.notice-index no_decided c.loop-notice-test.true c.loop-notice.invariant.1

pub loop-notice-preserved : goal.loop-notice-preserved
loop-notice-preserved g c =
    let m = g.W.Wire in
    let inv = c.loop-notice.invariant in
    next_done m.depth (m.line c.args.wire.now) (m.line c.loop-notice.wire) c.args.port c.args.notices.now c.loop-notice.notice-index no_decided c.loop-notice-test.true inv.1 (m.line c.put_copies.new.wire) inv.0 c.put_copies.ensures
