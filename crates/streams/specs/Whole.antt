-- Where reading a whole stream stops. Assumes nothing.
use Rattle.std.specs.Prelude.{◌≡◌, ℕ, ◌⊎◌, List}
use Rattle.events.specs.declared.event.Event.{Event}
use Rattle.events.specs.Streams.{Says, FirstTable}
use Rattle.streams.specs.declared.part.Part.{Part}
use Rattle.streams.specs.declared.part.StreamFault.{StreamFault}
use Rattle.streams.specs.declared.part.StreamFault.TheVariants.{Refused}
use Rattle.streams.specs.Streams.{FirstRefused, place_of, Stops}

-- from a place on the stream says some events, and then meets a fault
pub record RestRefused (stream : List ℕ) (from : ℕ) (fault : StreamFault) : Type 0 where
  pub events : List Event
  pub says : Says stream from events (place_of fault)
  pub why : Stops stream fault

-- the fault is met at the first field, by this part
pub record RefusedFirst (stream : List ℕ) (fault : StreamFault) : Type 0 where
  pub part : Part
  pub is : fault ≡ Refused (record { place = 0; part = part })
  pub why : FirstRefused stream part

-- the first fault of a stream: nothing before its place is refused
abbrev pub FirstFault : List ℕ → StreamFault → Type 0
FirstFault stream fault = RefusedFirst stream fault ⊎ ((masks : List ℕ) × (behind : ℕ) × FirstTable stream masks behind × RestRefused stream behind fault)
