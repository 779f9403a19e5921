-- How a port stamps. Assumes nothing.
use Rattle.std.specs.Prelude.{ℕ, ◌+◌, max, Bool, cond, List, [], ◌∷◌, Some, None, Option, nat_le, nat_lt}
use Rattle.ordered.specs.Orders.{all_pass}
use Rattle.records.specs.Keys.{pair_before}
use Rattle.records.specs.declared.stamp.Pair.{Pair}
use Rattle.records.specs.declared.notice.Handed.{Handed}
use Rattle.records.specs.declared.notice.Decided.{Decided}

-- the stamping rule. A port's floor is the highest pair among all that it stamped and the notices released there; a fresh port
-- has none. A clock above the floor's begins a new second at step 0; any other goes one step above the floor.
abbrev pub next_pair : Option Pair → ℕ → Pair
next_pair None clock = record { clock = clock; step = 0 }
next_pair (Some floor) clock = cond (nat_lt floor.clock clock) (record { clock = clock; step = 0 }) (record { clock = floor.clock; step = floor.step + 1 })

-- a step has two bytes; a pair above that cannot be stamped
abbrev pub step_fits : Pair → Bool
step_fits p = nat_le p.step 65535

-- the floor with one more pair among those that it is the highest of
abbrev pub raised : Option Pair → Pair → Option Pair
raised None p = Some p
raised (Some floor) p = cond (pair_before floor p) (Some p) (Some floor)

-- a notice with the stamp that the port gives it
abbrev pub stamped_by : ℕ → Pair → Handed → Decided
stamped_by port p n = record { notice = n.notice; stamp = record { pair = p; port = port } }

-- notices stamped one after the other, each pair becoming the floor for the next
abbrev pub stamped : ℕ → Option Pair → List Handed → List Decided
stamped port floor [] = []
stamped port floor (n ∷ ns) = stamped_by port (next_pair floor n.clock) n ∷ stamped port (Some (next_pair floor n.clock)) ns

-- the floor that they leave
abbrev pub floor_after : Option Pair → List Decided → Option Pair
floor_after floor [] = floor
floor_after floor (d ∷ ds) = floor_after (Some d.stamp.pair) ds

-- no step of theirs is above 65,535
abbrev pub stampable : List Decided → Bool
stampable ds = all_pass (λ d. step_fits d.stamp.pair) ds

-- the clock that hand in gives: the larger of the reading and the dispatcher's last clock, which is 0 before his first
abbrev pub clock_for : ℕ → ℕ → ℕ
clock_for last reading = max last reading
