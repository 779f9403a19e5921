use Rattle.std.proofs.Common.{◌≡◌, ◌++◌, map, take, drop}
use Rattle.bag_wire.specs.Journals.{marked}
use Rattle.bag_wire.proofs.journal.mark.Given as goal

abbrev pub invariant-loop-entry : goal.invariant-loop-entry
invariant-loop-entry l = l.entries ≡ map (marked l.ends.from l.ends.to) (take l.entry-index l.initial.entries) ++ drop l.entry-index l.initial.entries
