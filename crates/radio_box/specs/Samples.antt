-- What a radio box sends of an event. Assumes nothing.
use Rattle.std.specs.Prelude.{◌≡◌, ℕ, cond, not, ◌&&◌, List, Some, None, Option, ◌==◌, slice_index_or}
use Rattle.records.specs.Masks.{named}
use Rattle.records.specs.Reaching.{nobody}
use Rattle.records.specs.declared.mask.Mask.{Mask}
use Rattle.records.specs.declared.notice.Action.{Action}
use Rattle.records.specs.declared.notice.Action.TheVariants.{Take, Leave}
use Rattle.records.specs.declared.notice.Decided.{Decided}
use Rattle.records.specs.declared.notice.HandIn.{HandIn}
use Rattle.records.specs.declared.notice.Record.TheVariants.{Notice, Empty}
use Rattle.records.specs.declared.stamp.Stamp.{Stamp}
use Rattle.events.specs.declared.event.Event.{Event}
use Rattle.events.specs.declared.event.Event.TheVariants as event
use Rattle.radio_box.specs.declared.sample.Sample.{Sample}

-- the action with this number
abbrev pub action_of : ℕ → Option Action
action_of n = cond (n == 1) (Some Take) (cond (n == 2) (Some Leave) None)

-- a sample is stamped with the bare reading, at step 0
abbrev pub stamp_of : ℕ → ℕ → Stamp
stamp_of reading port = record { pair = record { clock = reading; step = 0 }; port = port }

-- `others` names the ports that `mask` names, but this one
abbrev pub Beside : ℕ → ℕ → ℕ → Type 0
Beside port mask others = (q : ℕ) → named others q ≡ (named mask q && not (q == port))

-- the notice that a dispatcher hands in, with this action, as a sample: a box counts nothing, so its count is 0
abbrev pub notice_of : HandIn → Action → Decided
notice_of x action = record {
  notice = record { source = x.port; dispatcher = x.dispatcher; count = 0; to = record { bits = x.mask }; home = x.home; berth = x.berth; action = action; vessel = x.vessel };
  stamp = stamp_of x.reading x.port;
}

-- by a table of these masks, the sample is what is sent of the event
abbrev pub Sends : List Mask → Event → Sample → Type 0
Sends masks (event.HandIn x) s = (a : Action) × (action_of x.action ≡ Some a) × (s.from ≡ x.port) × Beside x.port x.mask s.to.bits × (s.record ≡ Notice (notice_of x a))
Sends masks (event.Decide port number cuts) s = ⊥
Sends masks (event.Clear port reading) s = (s.from ≡ port) × (s.to ≡ slice_index_or masks port nobody) × (s.record ≡ Empty (stamp_of reading port))
Sends masks (event.Bring from to) s = ⊥
Sends masks (event.Fetch port source) s = ⊥
Sends masks (event.Release port) s = ⊥

-- nothing is sent of the event
abbrev pub SendsNothing : Event → Type 0
SendsNothing (event.HandIn x) = action_of x.action ≡ None
SendsNothing (event.Decide port number cuts) = Unit {0}
SendsNothing (event.Clear port reading) = ⊥
SendsNothing (event.Bring from to) = Unit {0}
SendsNothing (event.Fetch port source) = Unit {0}
SendsNothing (event.Release port) = Unit {0}
