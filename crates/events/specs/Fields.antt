-- How a stream is read: from the bytes at a place to the field there and the place behind it, or the refusal. Assumes nothing.
use Rattle.std.specs.Prelude.{ℕ, ◌+◌, ◌*◌, Bool, false, cond, not, ◌||◌, List, [], ◌∷◌, length, take, drop, is_some, Some, None, Option, ◌==◌, nat_lt, slice_index}
use Rattle.records.specs.declared.fault.ReaderFault.{ReaderFault}
use Rattle.records.specs.declared.fault.ReaderFault.TheVariants.{StreamTooLong, LooseBytes, UnknownTag, MisplacedTag, WrongLength, MissingBytes}
use Rattle.events.specs.declared.event.Event.{Event}
use Rattle.events.specs.declared.event.Event.TheVariants.{HandIn, Decide, Clear, Bring, Fetch, Release}

-- the number at place i, in two or four bytes, high byte first
abbrev pub at16 : List ℕ → ℕ → ℕ
at16 bs i = slice_index bs i * 256 + slice_index bs (i + 1)

abbrev pub at32 : List ℕ → ℕ → ℕ
at32 bs i = slice_index bs i * 16777216 + slice_index bs (i + 1) * 65536 + slice_index bs (i + 2) * 256 + slice_index bs (i + 3)

-- how many bytes the value has under the tag of an event
abbrev pub size_of : ℕ → Option ℕ
size_of t =
    cond (t == 1) (Some 12)
    (cond (t == 2) (Some 11)
    (cond (t == 3) (Some 5)
    (cond (t == 4) (Some 2)
    (cond (t == 5) (Some 2)
    (cond (t == 6) (Some 1) None)))))

-- the event that a value says under a tag of 1 to 6
abbrev pub event_of : ℕ → List ℕ → Event
event_of t v =
    cond (t == 1) (HandIn (record { port = slice_index v 0; dispatcher = slice_index v 1; reading = at32 v 2; mask = slice_index v 6; home = slice_index v 7; berth = slice_index v 8; action = slice_index v 9; vessel = at16 v 10 }))
    (cond (t == 2) (Decide (slice_index v 0) (at16 v 1) (at16 v 3 ∷ at16 v 5 ∷ at16 v 7 ∷ at16 v 9 ∷ []))
    (cond (t == 3) (Clear (slice_index v 0) (at32 v 1))
    (cond (t == 4) (Bring (slice_index v 0) (slice_index v 1))
    (cond (t == 5) (Fetch (slice_index v 0) (slice_index v 1))
    (Release (slice_index v 0))))))

-- the tag under which the table's masks stand
abbrev pub table_tag : ℕ
table_tag = 16

-- the length n is another than an event's under tag t
abbrev pub wrong_for : Option ℕ → ℕ → Bool
wrong_for None n = false
wrong_for (Some size) n = not (n == size)

-- why a field with this tag and length is refused, in checking order, where so many bytes follow its head
abbrev pub field_fault : Bool → ℕ → ℕ → ℕ → Option ReaderFault
field_fault first tag n there =
    cond (not (is_some (size_of tag) || tag == table_tag)) (Some UnknownTag)
    (cond (cond first (not (tag == table_tag)) (tag == table_tag)) (Some MisplacedTag)
    (cond (wrong_for (size_of tag) n) (Some WrongLength)
    (cond (nat_lt there n) (Some MissingBytes) None)))

-- what is found at a place: the table's masks or an event, each with the place behind its field; the end; or a refusal
pub data Reading : Type 0 where
  table : List ℕ → ℕ → Reading
  event : Event → ℕ → Reading
  end : Reading
  refused : ReaderFault → Reading

-- a field's value, if nothing speaks against it
abbrev pub read_value : Option ReaderFault → ℕ → ℕ → ℕ → List ℕ → Reading
read_value (Some fault) place tag n bytes = refused fault
read_value None place tag n bytes = cond (tag == table_tag) (table (take n bytes) (place + (3 + n))) (event (event_of tag (take n bytes)) (place + (3 + n)))

-- the field at a place, from the bytes there: a tag, a length of two bytes, and the value
abbrev pub read_field : ℕ → List ℕ → Reading
read_field place [] = cond (place == 0) (refused LooseBytes) end
read_field place (t ∷ []) = refused LooseBytes
read_field place (t ∷ h ∷ []) = refused LooseBytes
read_field place (t ∷ h ∷ l ∷ v) = read_value (field_fault (place == 0) t (h * 256 + l) (length v)) place t (h * 256 + l) v

-- the longest stream that is read
abbrev pub longest : ℕ
longest = 32768

abbrev pub read_at : List ℕ → ℕ → Reading
read_at stream place = cond (nat_lt longest (length stream)) (refused StreamTooLong) (read_field place (drop place stream))
