use Rattle.bag_wire.proofs.Edits.{look_done}
use Rattle.bag_wire.proofs.bag.BagWireWire.look.Goals as goal

pub returns : goal.returns
returns c = let w = c.args.self.now in look_done w.entries w.len w.ok c.args.ends.from c.args.ends.to c.in_ok-i.i c.in_ok-i.ensures _ c.shown.result c.shown.ensures
