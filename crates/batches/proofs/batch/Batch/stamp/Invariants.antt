use Rattle.std.proofs.Common.{◌≤◌, length, drop}
use Rattle.ordered.specs.Sorted.{entries_of}
use Rattle.model.specs.Batches.{batch}
use Rattle.model.specs.Stamping.{stamped}
use Rattle.batches.proofs.Stampings.{AtMost, Going}
use Rattle.batches.proofs.batch.Batch.stamp.Given as goal

abbrev pub invariant-loop-n : goal.invariant-loop-n
invariant-loop-n l =
    (length (entries_of l.notices) ≤ l.n-index)
    × AtMost l.last (entries_of l.notices)
    × Going l.port l.fn.floor (stamped l.port l.fn.floor (batch l.cuts l.undecided)) l.last (entries_of l.notices) (batch l.cuts (drop l.n-index l.undecided))
