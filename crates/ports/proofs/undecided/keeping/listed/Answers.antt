use Rattle.std.proofs.Common.{◌<◌, length, ap, ◌∙◌, arith}
use Rattle.std.proofs.lemmas.List.{length-take-le, take_all}
use Rattle.ordered.specs.Sorted.{entries_of}
use Rattle.ordered.proofs.Sorts.{insert_ok, inserted}
use Rattle.batches.proofs.Walks.{no_handed}
use Rattle.ports.proofs.Staying.{put_next}
use Rattle.ports.proofs.undecided.keeping.listed.Goals as goal

pub unwrap-requires : goal.unwrap-requires
unwrap-requires c =
    let room : length (entries_of c.loop-n.list) < 16 = omega (arith, ap length c.loop-n.invariant, length-take-le c.loop-n.n-index c.args.notices.now (omega (arith, c.loop-n-test.true)), c.loop-n-test.true, c.requires.few) in
    insert_ok _ c.loop-n.list _ c.insert.result room c.insert.ensures

pub loop-n-preserved : goal.loop-n-preserved
loop-n-preserved c =
    let room : length (entries_of c.loop-n.list) < 16 = omega (arith, ap length c.loop-n.invariant, length-take-le c.loop-n.n-index c.args.notices.now (omega (arith, c.loop-n-test.true)), c.loop-n-test.true, c.requires.few) in
    put_next c.args.notices.now (entries_of c.loop-n.list) _ c.loop-n.n-index no_handed c.loop-n-test.true c.requires.rises c.loop-n.invariant (inserted _ c.loop-n.list _ c.insert.result room c.insert.ensures)

pub returns : goal.returns
returns c = c.loop-n.invariant ∙ take_all c.loop-n.n-index c.args.notices.now c.loop-n-test.false
