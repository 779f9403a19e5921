use Rattle.std.proofs.Common.{sym, ◌∙◌, arith, rules}
use Rattle.row_wire.proofs.RingLaws.{ringed_pop}
use Rattle.row_wire.proofs.ring.Ring.front.Goals as goal

pub returns : goal.returns
returns g c =
    let r = c.self.inside in
    let inv = c.self.invariant in
    (_, sym c.self.view_is ∙ ringed_pop g.row.N r.head r.len r.slots (search rules) inv.0 _ inv.1 (omega arith))
