-- What a whole stream says, and when it is accepted. Assumes nothing.
use Rattle.std.specs.Prelude.{◌≡◌, ℕ, ◌<◌, ◌≤◌, List, [], ◌∷◌, ◌++◌, length, drop}
use Rattle.records.specs.declared.fault.OutputFault.{OutputFault}
use Rattle.records.specs.declared.fault.OutputFault.TheVariants.{StreamTooLong, MemoryTooShort}
use Rattle.records.specs.declared.fault.TableFault.{TableFault}
use Rattle.std.specs.List.{AllByRecursion}
use Rattle.records.specs.Reaching.{Refuses}
use Rattle.events.specs.declared.event.Event.{Event}
use Rattle.events.specs.Fields.{table, event, end, read_at, longest}
use Rattle.events.specs.Writing.{stream_of, Fit}

-- from a place on, a stream says these events, one field after the other, and from there on reads this way
pub data Says (stream : List ℕ) : ℕ → List Event → ℕ → Type 0 where
  none : (p : ℕ) → Says stream p [] p
  more : (p q r : ℕ) (e : Event) (es : List Event) → read_at stream p ≡ event e q → Says stream q es r → Says stream p (e ∷ es) r

-- bytes that make a reach table
abbrev pub IsTable : List ℕ → Type 0
IsTable masks = (fault : TableFault) → Refuses masks fault → ⊥

-- reader and table refuse nothing in the stream: it begins with the masks of a table, then says these events, then ends
pub record Accepted (stream : List ℕ) (masks : List ℕ) (events : List Event) : Type 0 where
  pub behind : ℕ
  pub last : ℕ
  pub first : read_at stream 0 ≡ table masks behind
  pub sound : IsTable masks
  pub says : Says stream behind events last
  pub ends : read_at stream last ≡ end

-- the stream of a table and events was written to the front of the memory, in n bytes, and is accepted as just these
pub record Wrote (masks : List ℕ) (events : List Event) (old new : List ℕ) (n : ℕ) : Type 0 where
  pub count : n ≡ length (stream_of masks events)
  pub bytes : new ≡ stream_of masks events ++ drop n old
  pub reads : Accepted (stream_of masks events) masks events

-- when a stream is not written; the memory stays as it was
abbrev pub NotWritten : List ℕ → List ℕ → OutputFault → Type 0
NotWritten stream memory StreamTooLong = longest < length stream
NotWritten stream memory MemoryTooShort = (length stream ≤ longest) × (length memory < length stream)

-- ---- reading a whole stream

-- the stream begins with the masks of a table, and then a place comes
pub record FirstTable (stream masks : List ℕ) (behind : ℕ) : Type 0 where
  pub first : read_at stream 0 ≡ table masks behind
  pub sound : IsTable masks

-- from a place on the stream says these events, and then ends
pub record SaysRest (stream : List ℕ) (from : ℕ) (events : List Event) : Type 0 where
  pub last : ℕ
  pub says : Says stream from events last
  pub ends : read_at stream last ≡ end

-- the whole stream was read: it is accepted as this table and these events, is their writing byte for byte, and no
-- others have that writing
pub record ReadWhole (stream masks : List ℕ) (events : List Event) : Type 0 where
  pub accepted : Accepted stream masks events
  pub written : stream ≡ stream_of masks events
  pub only : (masks' : List ℕ) (events' : List Event) → IsTable masks' → AllByRecursion Fit events' → stream_of masks' events' ≡ stream → (masks' ≡ masks) × (events' ≡ events)
