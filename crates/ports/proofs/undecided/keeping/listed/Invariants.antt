use Rattle.std.proofs.Common.{◌≡◌, take}
use Rattle.ordered.specs.Sorted.{entries_of}
use Rattle.ports.proofs.undecided.keeping.listed.Given as goal

abbrev pub invariant-loop-n : goal.invariant-loop-n
invariant-loop-n l = entries_of l.list ≡ take l.n-index l.notices
