-- Where a stream stops, field by field, and by which part. Assumes nothing.
use Rattle.std.specs.Prelude.{◌≡◌, ℕ, ◌<◌, List, Some, None, Ok, Err, Option, Result}
use Rattle.records.specs.Reaching.{Refuses}
use Rattle.events.specs.declared.event.Event.{Event}
use Rattle.events.specs.Fields.{Reading, table, event, end, refused, read_at}
use Rattle.streams.specs.declared.part.Part.{Part}
use Rattle.streams.specs.declared.part.Part.TheVariants.{Reader, Table}
use Rattle.streams.specs.declared.part.Refusal.{Refusal}
use Rattle.streams.specs.declared.part.StreamFault.{StreamFault}
use Rattle.streams.specs.declared.part.StreamFault.TheVariants.{Refused, NoMemory}

-- the first field is refused by the reader, or its masks by the table
abbrev pub FirstRefused : List ℕ → Part → Type 0
FirstRefused stream (Reader fault) = read_at stream 0 ≡ refused fault
FirstRefused stream (Table fault) = (masks : List ℕ) × (behind : ℕ) × (read_at stream 0 ≡ table masks behind) × Refuses masks fault

-- the reading is a refusal by this part; behind the first field only the reader refuses
abbrev pub RefusedBy : Reading → Part → Type 0
RefusedBy found (Reader fault) = found ≡ refused fault
RefusedBy found (Table fault) = ⊥

-- what one call behind the table answers, at the place p, where it found this reading; the reader then stands at q
abbrev pub EventAnswers : Reading → ℕ → ℕ → Result (Option Event) Refusal → Type 0
EventAnswers found p q (Ok (Some e)) = (found ≡ event e q) × (p < q)
EventAnswers found p q (Ok None) = (found ≡ end) × (q ≡ p)
EventAnswers found p q (Err r) = (r.place ≡ p) × RefusedBy found r.part × (q ≡ p)

-- the place of a fault's field
abbrev pub place_of : StreamFault → ℕ
place_of (Refused r) = r.place
place_of (NoMemory place) = place

-- why a later field is not read: the reader refuses it, or it says an event, for which there was no memory
abbrev pub Stops : List ℕ → StreamFault → Type 0
Stops stream (Refused r) = RefusedBy (read_at stream r.place) r.part
Stops stream (NoMemory place) = (e : Event) × (behind : ℕ) × (read_at stream place ≡ event e behind)
