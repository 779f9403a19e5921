use Rattle.std.proofs.Common.{◌≤◌, arith, length-take}
use Rattle.ordered.proofs.Changes.{put_in}
use Rattle.ordered.proofs.Moves.{pushed_take, pushed_drop}
use Rattle.ordered.proofs.list.put.Goals as goal

pub returns : goal.returns
returns g c =
    let old = c.args.places.now in
    let len = c.args.len in
    let at = c.args.at in
    let x = c.args.x in
    let part = c.rotate_right.new.self in
    let le : at ≤ len = omega (arith, c.requires.place.within, length-take len old) in
    let turned = c.rotate_right.ensures.after in
    put_in g.met.T.Entry.total x len old _ at c.requires.room c.requires.place (pushed_take old len at x c.requires.room le part turned) (pushed_drop old len at x c.requires.room le part turned)
