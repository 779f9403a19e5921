-- What an ordered list in memory of its own holds, and what its calls do to that. Assumes nothing.
use Rattle.std.specs.Prelude.{◌≡◌, ℕ, ◌<◌, ◌≤◌, List, [], ◌∷◌, length, take, Some, None, Ok, Err, Option, Result}
use Rattle.ordered.specs.Orders.{placed, place_of}
use Rattle.ordered.specs.declared.entry.Entry.{Ghosts}
use Rattle.ordered.specs.declared.sorted.Sorted.{Sorted}

module _ {T : Type 0} {N : ℕ} {order : Ghosts T} where
  -- the entries, in their order
  abbrev pub entries_of : Sorted T N order → List T
  entries_of s = take s.len s.places

  -- x took its place; or N entries were there, and nothing changed
  abbrev pub Inserted : {E : Type 0} → T → Sorted T N order → Sorted T N order → Result ℕ E → Type 0
  Inserted x old new (Ok place) = (length (entries_of old) < N) × (place ≡ place_of order.before x (entries_of old)) × (entries_of new ≡ placed order.before x (entries_of old))
  Inserted x old new (Err full) = (N ≤ length (entries_of old)) × (new ≡ old)

  -- the first left; or there was none, and nothing changed
  abbrev pub TookFirst : Sorted T N order → Sorted T N order → Option T → Type 0
  TookFirst old new (Some x) = entries_of old ≡ x ∷ entries_of new
  TookFirst old new None = (entries_of old ≡ []) × (new ≡ old)
