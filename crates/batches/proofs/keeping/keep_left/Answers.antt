use Rattle.std.proofs.Common.{◌<◌, length, sym, ◌∙◌, arith}
use Rattle.std.proofs.lemmas.List.Filters.{FiltersInPlace-all, FiltersInPlace-more_no, FiltersInPlace-more_set}
use Rattle.std.proofs.lemmas.List.{get_or_default}
use Rattle.std.proofs.lemmas.Bool.{not_from_true, not_from_false}
use Rattle.batches.proofs.keeping.keep_left.Goals as goal
use Rattle.batches.proofs.keeping.keep_left.Goals.{then-not-is_within, else-not-is_within}

pub loop-i-preserved : goal.loop-i-preserved
loop-i-preserved c =
    let lt : c.loop-i.i < length c.loop-i.notices = omega arith in
    let is = c.is_within.ensures in
    elim c.if-not-is_within.branch [
      | then-not-is_within w ↦ rw (w.notices-is, w.k-is) (FiltersInPlace-more_set c.loop-i.invariant lt (not_from_false _ (sym is ∙ w.if-not-is_within.true)) (get_or_default c.loop-i.notices c.loop-i.i _ _ lt))
      | else-not-is_within w ↦ rw (w.notices-is, w.k-is) (FiltersInPlace-more_no c.loop-i.invariant lt (not_from_true _ (sym is ∙ w.if-not-is_within.false)) (get_or_default c.loop-i.notices c.loop-i.i _ _ lt))
    ]

pub returns : goal.returns
returns c = record { kept = FiltersInPlace-all c.loop-i.invariant c.loop-i-test.false; few = omega arith }
