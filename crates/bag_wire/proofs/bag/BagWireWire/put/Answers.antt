use Rattle.std.proofs.Common.{arith}
use Rattle.bag_wire.proofs.Edits.{put_within, put_ok, put_done, put_waits}
use Rattle.bag_wire.proofs.bag.BagWireWire.put.Goals as goal

pub bounds-self-self : goal.bounds-self-self
bounds-self-self c = let w = c.args.self.now in put_within w.entries w.len w.ok c.args.ends.from c.args.ends.to c.args.record c.fresh.result c.fresh.ensures (omega arith)

pub invariant_of-self : goal.invariant_of-self
invariant_of-self c = let w = c.args.self.now in record { ok = put_ok w.entries w.len w.ok c.args.ends.from c.args.ends.to c.args.record c.fresh.result c.fresh.ensures (omega arith) }

pub returns : goal.returns
returns c =
    let w = c.args.self.now in
    record {
      does = put_done w.entries w.len w.ok c.args.ends.from c.args.ends.to c.args.record c.fresh.result c.fresh.ensures (omega arith);
      waits = put_waits w.entries w.len w.ok c.args.ends.from c.args.ends.to c.args.record c.fresh.result c.fresh.ensures (omega arith);
    }
