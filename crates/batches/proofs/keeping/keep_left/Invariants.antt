use Rattle.std.proofs.Common.{not}
use Rattle.model.specs.Batches.{within}
use Rattle.std.proofs.lemmas.List.Filters.{FiltersInPlace}
use Rattle.batches.proofs.keeping.keep_left.Given as goal

abbrev pub invariant-loop-i : goal.invariant-loop-i
invariant-loop-i l = FiltersInPlace (λ n. not (within l.cuts n)) l.initial.notices l.notices l.k l.i
