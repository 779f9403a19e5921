use Rattle.std.proofs.Common.{◌<◌, length, ap, arith, rules}
use Rattle.row_wire.proofs.RingLaws.{length_ringed, ringed_push}
use Rattle.row_wire.proofs.ring.Ring.push.Goals as goal

pub returns : goal.returns
returns g c =
    let r = c.self.inside in
    let inv = c.self.invariant in
    let long = length_ringed g.row.N r.head r.len r.slots (search rules) inv.0 inv.1 in
    let room : r.len < g.row.N = omega (arith, long, ap length c.self.view_is) in
    let pushed = ringed_push g.row.N r.head r.len r.slots (search rules) inv.0 c.args.item room in
    cc (pushed, c.self.view_is)
