-- What one call of the reader answers, and where it stands then. Assumes nothing.
use Rattle.std.specs.Prelude.{◌≡◌, ◌≢◌, ℕ, List, Some, None, Ok, Err, Option, Result}
use Rattle.records.specs.declared.fault.ReaderFault.{ReaderFault}
use Rattle.events.specs.declared.event.Field.{Field}
use Rattle.events.specs.declared.event.Field.TheVariants.{Table, Event}
use Rattle.events.specs.Fields.{Reading, table, event, end, refused, table_tag, event_of}

-- the call found this reading at the place p, and the reader stands at q now
abbrev pub Answers : Reading → ℕ → ℕ → Result (Option Field) ReaderFault → Type 0
Answers found p q (Ok (Some (Table masks))) = found ≡ table masks.now q
Answers found p q (Ok (Some (Event e))) = found ≡ event e q
Answers found p q (Ok None) = (found ≡ end) × (q ≡ p)
Answers found p q (Err fault) = (found ≡ refused fault) × (q ≡ p)

-- a field says this of a value under a tag of this number
abbrev pub Tells : ℕ → List ℕ → Field → Type 0
Tells number value (Table masks) = (number ≡ table_tag) × (masks.now ≡ value)
Tells number value (Event e) = (number ≢ table_tag) × (e ≡ event_of number value)
