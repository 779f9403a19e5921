use Rattle.std.proofs.Common.{length, ap, arith}
use Rattle.bag_wire.specs.Journals.{kept}
use Rattle.bag_wire.proofs.Edits.{mid_is, length_line}
use Rattle.bag_wire.proofs.bag.BagWireWire.free.Goals as goal

pub overflow_sub-result : goal.overflow_sub-result
overflow_sub-result c =
    let w = c.args.self.now in
    omega (arith, w.ok.2 c.args.ends.from c.args.ends.to, ap (λ es. length (kept es c.args.ends.from c.args.ends.to)) (mid_is w.entries w.len))

pub returns : goal.returns
returns c =
    let w = c.args.self.now in
    omega (arith, ap (λ es. length (kept es c.args.ends.from c.args.ends.to)) (mid_is w.entries w.len), length_line w.entries w.len w.ok c.args.ends.from c.args.ends.to)
