use Rattle.std.proofs.Common.{◌+◌, ◌<◌, ◌++◌, length, get_or, drop, sym, refl, ap, ◌∙◌, subst, arith}
use Rattle.std.proofs.lemmas.List.{drop_all, length-take-le}
use Rattle.ordered.specs.Sorted.{entries_of}
use Rattle.ordered.proofs.Sorts.{insert_ok, inserted}
use Rattle.model.specs.Batches.{within, batch}
use Rattle.model.specs.Stamping.{stamped}
use Rattle.batches.proofs.Walks.{no_handed, kept_here, kept_not}
use Rattle.batches.proofs.Stampings.{Going, at_most_none, going_more, going_over, going_all}
use Rattle.batches.proofs.batch.Batch.stamp.Goals as goal
use Rattle.batches.proofs.batch.Batch.stamp.Goals.{then-is_within+in-Some, else-is_within}

pub loop-n-init : goal.loop-n-init
loop-n-init c =
    let none = c.new-notices.ensures in
    (omega (arith, ap length none), at_most_none c.args.floor _ none, record { made = ap (λ ys. ys ++ stamped c.args.port c.args.floor (batch c.args.cuts.now c.args.undecided.now)) none; floor = refl; fit = refl })

pub returns-in_default : goal.returns-in_default
returns-in_default c =
    let ns = c.args.undecided.now in
    let cuts = c.args.cuts.now in
    let i = c.loop-n.n-index in
    let here = kept_here ns i c.loop-n-test.true (within cuts) no_handed (sym c.if-is_within.ensures) in
    (omega arith, going_over (get_or ns i no_handed) (batch cuts (drop (i + 1) ns)) (subst (Going _ _ _ _ _) here c.loop-n.invariant.2) c.in_default.ensures)

pub unwrap-requires : goal.unwrap-requires
unwrap-requires c =
    let room : length (entries_of c.loop-n.notices) < 16 = omega (arith, c.loop-n.invariant.0, c.loop-n-test.true) in
    insert_ok _ c.loop-n.notices _ c.insert.result room c.insert.ensures

pub loop-n-preserved : goal.loop-n-preserved
loop-n-preserved c =
    let ns = c.args.undecided.now in
    let cuts = c.args.cuts.now in
    let i = c.loop-n.n-index in
    let rest = batch cuts (drop (i + 1) ns) in
    let (few, at, g) = c.loop-n.invariant in
    let room : length (entries_of c.loop-n.notices) < 16 = omega (arith, few, c.loop-n-test.true) in
    elim c.if-is_within.branch [
      | then-is_within+in-Some w ↦
          let here = kept_here ns i c.loop-n-test.true (within cuts) no_handed (sym c.is_within.ensures ∙ w.if-is_within.true) in
          let pair = w.in-Some.ensures in
          let put = inserted _ c.loop-n.notices _ w.insert.result room w.insert.ensures in
          let more = going_more (get_or ns i no_handed) w.in-Some.pair rest (subst (Going _ _ _ _ _) here g) at pair.0 pair.1 put in
          rw (w.last-is, w.notices-is) (omega (arith, few, more.0), more.1, more.2)
      | else-is_within w ↦
          let here = kept_not ns i c.loop-n-test.true (within cuts) no_handed (sym c.is_within.ensures ∙ w.if-is_within.false) in
          rw (w.last-is, w.notices-is) (omega (arith, few), at, subst (Going _ _ _ _ _) here g)
    ]

pub returns : goal.returns
returns c =
    let ns = c.args.undecided.now in
    let cuts = c.args.cuts.now in
    let none = ap (batch cuts) (drop_all c.loop-n.n-index ns c.loop-n-test.false) in
    let done = going_all (subst (Going _ _ _ _ _) none c.loop-n.invariant.2) in
    record { few = omega arith; notices = done.0; count = sym (length-take-le c.loop-n.notices.len c.loop-n.notices.places c.loop-n.notices.within) ∙ ap length done.0; last = done.1; fits = done.2 }
