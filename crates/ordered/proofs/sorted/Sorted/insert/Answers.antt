use Rattle.std.proofs.Common.{◌<◌, length, take, sym, ◌∙◌, arith, length-take, length-set}
use Rattle.ordered.proofs.Lasts.{appended, appended_rises, place_behind}
use Rattle.ordered.proofs.sorted.Sorted.insert.Goals as goal

pub invariant_of-self : goal.invariant_of-self
invariant_of-self g c =
    let s = c.args.self.now in
    let room : s.len < length s.places = omega arith in
    record {
      within = omega (arith, room, length-set s.places s.len c.args.x);
      rises = appended_rises g.met.T.Entry.total c.args.x s.places s.len room (c.goes_last.ensures c.if-goes_last.true) s.rises;
    }

pub returns-then-goes_last : goal.returns-then-goes_last
returns-then-goes_last g c =
    let s = c.args.self.now in
    let room : s.len < length s.places = omega arith in
    let behind = c.goes_last.ensures c.if-goes_last.true in
    let size = length-take s.len s.places in
    (omega (arith, room, size), omega (arith, size, room) ∙ sym (place_behind g.T.Entry.before c.args.x (take s.len s.places) behind), appended g.met.T.Entry.total c.args.x s.places s.len room behind)
