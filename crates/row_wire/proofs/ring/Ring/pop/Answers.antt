use Rattle.std.proofs.Common.{◌<◌, length, ap, sym, ◌∙◌, arith, rules}
use Rattle.row_wire.proofs.RingLaws.{length_ringed, ringed_pop}
use Rattle.row_wire.proofs.ring.Ring.pop.Goals as goal

-- the slot at the head is the oldest item
pub returns : goal.returns
returns g c =
    let r = c.self.inside in
    let inv = c.self.invariant in
    let was = c.in_ok-item.ensures.1 in
    let long = length_ringed g.row.N r.head r.len r.slots (search rules) inv.0 inv.1 in
    let some : 0 < r.len = omega (arith, long, ap length c.self.view_is, ap length was) in
    let split = sym c.self.view_is ∙ ringed_pop g.row.N r.head r.len r.slots (search rules) inv.0 c.in_ok-item.item inv.1 some in
    cc (was, split)
