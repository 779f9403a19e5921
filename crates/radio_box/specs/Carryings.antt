-- What a radio box does with an event to the lines of its wire. Assumes nothing.
use Rattle.std.specs.Prelude.{◌≡◌, ℕ, ◌⊎◌, List, Some, None, Ok, Err, Option, Result}
use Rattle.records.specs.declared.fault.NetFault.{NetFault}
use Rattle.records.specs.declared.fault.NetFault.TheVariants.{LineFull, NothingArrived}
use Rattle.records.specs.declared.mask.Mask.{Mask}
use Rattle.events.specs.declared.event.Event.{Event}
use Rattle.events.specs.declared.event.Event.TheVariants.{HandIn, Decide, Clear, Bring, Fetch, Release}
use Rattle.wires.specs.Growths as growths
use Rattle.wires.specs.Lines as lines
use Rattle.radio_box.specs.declared.outcome.Carried.{Carried}
use Rattle.radio_box.specs.declared.outcome.Carried.TheVariants.{Sent, Brought, Took}
use Rattle.radio_box.specs.declared.sample.Sample.{Sample}
use Rattle.radio_box.specs.Samples.{Sends, SendsNothing}

-- neither a bring nor a fetch
abbrev pub OffLine : Event → Type 0
OffLine (HandIn x) = Unit {0}
OffLine (Decide port number cuts) = Unit {0}
OffLine (Clear port reading) = Unit {0}
OffLine (Bring from to) = ⊥
OffLine (Fetch port source) = ⊥
OffLine (Release port) = Unit {0}

-- one of the lines of the event's sample was full, or nothing had arrived on the line of a fetch; the lines stayed as they were
abbrev pub Refuses : {W : Type 0} → (W → lines.Lines) → ℕ → W → W → List Mask → Event → NetFault → Type 0
Refuses line depth old new masks e fault =
    ((fault ≡ LineFull) × ((s : Sample) × Sends masks e s × growths.Unsent line depth old new s.from s.to.bits))
    ⊎ ((fault ≡ NothingArrived) × ((port : ℕ) × (source : ℕ) × (e ≡ Fetch port source) × lines.NotTaken (line old) (line new) source port))

-- what `carry` answers, and what it did to the wire, of whatever kind, by a table of these masks
abbrev pub Carries : {W : Type 0} → (W → lines.Lines) → ℕ → W → W → List Mask → Event → Option (Result Carried NetFault) → Type 0
Carries line depth old new masks e (Some (Ok (Sent to))) = (s : Sample) × Sends masks e s × (to ≡ s.to) × growths.Sent depth (line old) (line new) s.from s.to.bits s.record
Carries line depth old new masks e (Some (Ok Brought)) = (p : ℕ) × (q : ℕ) × (e ≡ Bring p q) × lines.Brought (line old) (line new) p q
Carries line depth old new masks e (Some (Ok (Took x))) = (port : ℕ) × (source : ℕ) × (e ≡ Fetch port source) × lines.Taken (line old) (line new) source port x
Carries line depth old new masks e (Some (Err fault)) = Refuses line depth old new masks e fault
Carries line depth old new masks e None = SendsNothing e × OffLine e × (new ≡ old)
