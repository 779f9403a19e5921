-- The orders in which notices are kept, decided and released. Assumes nothing.
use Rattle.std.specs.Prelude.{ℕ, Bool, List, [], ◌∷◌}
use Rattle.ordered.specs.Orders.{by, by_then}
use Rattle.records.specs.declared.stamp.Pair.{Pair}
use Rattle.records.specs.declared.stamp.Stamp.{Stamp}
use Rattle.records.specs.declared.notice.Handed.{Handed}
use Rattle.records.specs.declared.notice.Decided.{Decided}

-- pairs compare by clock, then step
abbrev pub pair_before : Pair → Pair → Bool
pair_before = by_then (λ x. x.clock) (by (λ x. x.step))

-- stamps compare by pair, then port
abbrev pub stamp_before : Stamp → Stamp → Bool
stamp_before = by_then (λ x. x.pair.clock) (by_then (λ x. x.pair.step) (by (λ x. x.port)))

-- undecided notices are kept by clock, dispatcher, count
abbrev pub handed_before : Handed → Handed → Bool
handed_before = by_then (λ x. x.clock) (by_then (λ x. x.notice.dispatcher) (by (λ x. x.notice.count)))

-- decided notices are kept by stamp
abbrev pub decided_before : Decided → Decided → Bool
decided_before x y = stamp_before x.stamp y.stamp

-- the numbers that these two orders go by: notices with the same ones have the same place
abbrev pub handed_key : Handed → List ℕ
handed_key x = x.clock ∷ x.notice.dispatcher ∷ x.notice.count ∷ []

abbrev pub decided_key : Decided → List ℕ
decided_key x = x.stamp.pair.clock ∷ x.stamp.pair.step ∷ x.stamp.port ∷ []
