-- What a port's two lists hold, and whom they turn away. Assumes nothing.
use Rattle.std.specs.Prelude.{◌≡◌, ℕ, ◌<◌, ◌≤◌, Bool, true, false, ◌||◌, List, [], ◌∷◌, length, Some, None, Ok, Err, Option, Result, nat_le, nat_lt}
use Rattle.ordered.specs.Orders.{placed}
use Rattle.ordered.specs.Sorted.{entries_of}
use Rattle.records.specs.Keys.{handed_before, decided_before}
use Rattle.records.specs.declared.fault.NetFault.{NetFault}
use Rattle.records.specs.declared.fault.NetFault.TheVariants.{UndecidedFull, SourceWaitingFull}
use Rattle.model.specs.Batches.{count_from}
use Rattle.model.specs.Lists.{rest}
use Rattle.records.specs.declared.notice.Handed.{Handed}
use Rattle.records.specs.declared.notice.Decided.{Decided}
use Rattle.ports.specs.declared.undecided.Undecided.{Undecided}
use Rattle.ports.specs.declared.waiting.Waiting.{Waiting}

abbrev pub undecided_of : Undecided → List Handed
undecided_of u = entries_of u.notices

abbrev pub waiting_of : Waiting → List Decided
waiting_of w = entries_of w.notices

-- the notice took its place among the undecided; or 16 were undecided, and nothing changed
abbrev pub Adds : {U : Type 0} → Undecided → Undecided → Handed → Result U NetFault → Type 0
Adds old new n (Ok u) = (length (undecided_of old) < 16) × (undecided_of new ≡ placed handed_before n (undecided_of old))
Adds old new n (Err f) = (f ≡ UndecidedFull) × (16 ≤ length (undecided_of old)) × (new ≡ old)

-- no notice of the source can join: eight of it wait, or there is no such port
abbrev pub crowded : ℕ → List Decided → Bool
crowded source ds = nat_lt 7 source || nat_le 8 (count_from source ds)

-- the notice took its place among those that wait; or it could not join, and nothing changed
abbrev pub Joins : {U : Type 0} → Waiting → Waiting → Decided → Result U NetFault → Type 0
Joins old new d (Ok u) = (crowded d.stamp.port (waiting_of old) ≡ false) × (waiting_of new ≡ placed decided_before d (waiting_of old))
Joins old new d (Err f) = (f ≡ SourceWaitingFull) × (crowded d.stamp.port (waiting_of old) ≡ true) × (new ≡ old)

-- the lowest of a list that rises: its first, if it has one
abbrev pub Lowest : List Decided → Option Decided → Type 0
Lowest ds None = ds ≡ []
Lowest ds (Some n) = ds ≡ n ∷ rest ds
