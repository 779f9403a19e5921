-- What stamping a batch answers. Assumes nothing.
use Rattle.std.specs.Prelude.{◌≡◌, ℕ, ◌<◌, ◌≤◌, true, false, List, length, Option}
use Rattle.ordered.specs.Sorted.{entries_of}
use Rattle.records.specs.declared.notice.Decided.{Decided}
use Rattle.records.specs.declared.notice.Handed.{Handed}
use Rattle.records.specs.declared.stamp.Pair.{Pair}
use Rattle.model.specs.Batches.{batch}
use Rattle.model.specs.Stamping.{stamped, floor_after, stampable}
use Rattle.batches.specs.declared.batch.Batch.{Batch}
use Rattle.batches.specs.declared.batch.BatchFault.{BatchFault}
use Rattle.batches.specs.declared.batch.BatchFault.TheVariants.{TooMany, StepUsedUp}

-- the notices of a batch, by rising stamp
abbrev pub batch_of : Batch → List Decided
batch_of b = entries_of b.notices

-- b is what the port makes of the undecided notices within the cuts
pub record Stamps (port : ℕ) (floor : Option Pair) (cuts : List ℕ) (undecided : List Handed) (b : Batch) : Type 0 where
  pub few : length undecided ≤ 16
  pub notices : batch_of b ≡ stamped port floor (batch cuts undecided)
  pub count : b.notices.len ≡ length (stamped port floor (batch cuts undecided))
  pub last : b.floor ≡ floor_after floor (stamped port floor (batch cuts undecided))
  pub fits : stampable (stamped port floor (batch cuts undecided)) ≡ true

-- when a batch is not stamped
abbrev pub NotStamped : ℕ → Option Pair → List ℕ → List Handed → BatchFault → Type 0
NotStamped port floor cuts undecided TooMany = 16 < length undecided
NotStamped port floor cuts undecided StepUsedUp = (length undecided ≤ 16) × (stampable (stamped port floor (batch cuts undecided)) ≡ false)
