use Rattle.std.proofs.Common.{true, get_or, set, sym, ap, ◌∙◌, arith}
use Rattle.std.proofs.lemmas.List.{get_or_default}
use Rattle.std.proofs.lemmas.Bool.{cond-true, cond-false}
use Rattle.std.proofs.lemmas.List.Edits.{map_over_more}
use Rattle.bag_wire.specs.declared.entry.Entry.{Entry}
use Rattle.bag_wire.specs.Journals.{on, marked}
use Rattle.bag_wire.proofs.JournalLaws.{blank}
use Rattle.bag_wire.proofs.journal.mark.Goals as goal
use Rattle.bag_wire.proofs.journal.mark.Goals.{then-is_on, else-is_on}

pub loop-entry-preserved : goal.loop-entry-preserved
loop-entry-preserved c =
    let p = c.args.ends.from in
    let q = c.args.ends.to in
    let i = c.loop-entry.entry-index in
    let ys = c.loop-entry.entries in
    let x = get_or ys i blank in
    let now : Entry = record { ends = x.ends; item = x.item; arrived = true } in
    let step = map_over_more (marked p q) c.args.entries.now ys i x c.loop-entry-test.true c.loop-entry.invariant (get_or_default ys i blank x (omega arith)) in
    elim c.if-is_on.branch [
      | then-is_on w ↦ w.entries-is ∙ ap (set ys i) (sym (cond-true (on p q x) now x (sym w.if-is_on.ensures))) ∙ step
      | else-is_on w ↦ w.entries-is ∙ ap (set ys i) (sym (cond-false (on p q x) now x (sym w.if-is_on.ensures))) ∙ step
    ]
