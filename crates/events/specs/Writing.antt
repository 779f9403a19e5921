-- How a table and events are written as a stream. Assumes nothing.
use Rattle.std.specs.Prelude.{◌≡◌, ℕ, ◌/◌, ◌%◌, ◌^◌, ◌<◌, List, [], ◌∷◌, ◌++◌, length, slice_index}
use Rattle.events.specs.declared.event.Event.{Event}
use Rattle.events.specs.declared.event.Event.TheVariants.{HandIn, Decide, Clear, Bring, Fetch, Release}
use Rattle.events.specs.Fields.{table_tag}

-- a number as two or four bytes, high byte first
abbrev pub be16 : ℕ → List ℕ
be16 n = n / 256 % 256 ∷ n % 256 ∷ []

abbrev pub be32 : ℕ → List ℕ
be32 n = n / 16777216 % 256 ∷ n / 65536 % 256 ∷ n / 256 % 256 ∷ n % 256 ∷ []

-- numbers of two bytes, one behind the other
abbrev pub each16 : List ℕ → List ℕ
each16 [] = []
each16 (n ∷ ns) = be16 n ++ each16 ns

-- the tag of an event
abbrev pub tag_of : Event → ℕ
tag_of (HandIn x) = 1
tag_of (Decide port number cuts) = 2
tag_of (Clear port reading) = 3
tag_of (Bring from to) = 4
tag_of (Fetch port source) = 5
tag_of (Release port) = 6

-- its items, in the order of the format
abbrev pub value_of : Event → List ℕ
value_of (HandIn x) = x.port ∷ x.dispatcher ∷ (be32 x.reading ++ (x.mask ∷ x.home ∷ x.berth ∷ x.action ∷ be16 x.vessel))
value_of (Decide port number cuts) = port ∷ (be16 number ++ each16 cuts)
value_of (Clear port reading) = port ∷ be32 reading
value_of (Bring from to) = from ∷ to ∷ []
value_of (Fetch port source) = port ∷ source ∷ []
value_of (Release port) = port ∷ []

-- a field: the tag, the length of the value in two bytes, and the value
abbrev pub field_of : ℕ → List ℕ → List ℕ
field_of tag value = tag ∷ (be16 (length value) ++ value)

abbrev pub event_bytes : Event → List ℕ
event_bytes e = field_of (tag_of e) (value_of e)

abbrev pub events_bytes : List Event → List ℕ
events_bytes [] = []
events_bytes (e ∷ es) = event_bytes e ++ events_bytes es

-- the field of the table with these masks, as bytes
abbrev pub table_bytes : List ℕ → List ℕ
table_bytes masks = field_of table_tag masks

-- the writing of a table and a list of events
abbrev pub stream_of : List ℕ → List Event → List ℕ
stream_of masks events = table_bytes masks ++ events_bytes events

-- each number of an event fits its place, as it does of every value that a program can hold
abbrev pub Fit : Event → Type 0
Fit (HandIn x) = (x.port < 256) × (x.dispatcher < 256) × (x.reading < 2 ^ 32) × (x.mask < 256) × (x.home < 256) × (x.berth < 256) × (x.action < 256) × (x.vessel < 2 ^ 16)
Fit (Decide port number cuts) = (port < 256) × (number < 2 ^ 16) × (length cuts ≡ 4) × ((i : ℕ) → slice_index cuts i < 2 ^ 16)
Fit (Clear port reading) = (port < 256) × (reading < 2 ^ 32)
Fit (Bring from to) = (from < 256) × (to < 256)
Fit (Fetch port source) = (port < 256) × (source < 256)
Fit (Release port) = port < 256
