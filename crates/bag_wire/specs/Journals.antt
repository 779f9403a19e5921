-- What a journal of entries means as the lines of a wire. Assumes nothing.
use Rattle.std.specs.Prelude.{◌≡◌, ℕ, ◌<◌, ◌≤◌, Bool, true, false, cond, ◌&&◌, List, map, length, Some, None, filter, Option, ◌==◌, slice_index_or}
use Rattle.std.specs.List.{prefix_len}
use Rattle.records.specs.declared.notice.Record.{Record}
use Rattle.wires.specs.Lines.{Line, Lines, depth_of}
use Rattle.bag_wire.specs.declared.entry.Entry.{Entry}

-- the entry that puts x on the line from p to q: it has not arrived
abbrev pub put : ℕ → ℕ → Record → Entry
put p q x = record { ends = record { from = p; to = q }; item = x; arrived = false }

-- is the entry on the line from p to q
abbrev pub on : ℕ → ℕ → Entry → Bool
on p q e = e.ends.from == p && e.ends.to == q

-- the entries of the line from p to q, in the journal's order
abbrev pub kept : List Entry → ℕ → ℕ → List Entry
kept es p q = filter (on p q) es

-- a line of these entries: those marked, from the oldest on, have arrived
abbrev pub line_of : List Entry → Line
line_of es = record { held = map (λ e. e.item) es; arrived = prefix_len (λ e. e.arrived) es }

abbrev pub lines_in : List Entry → Lines
lines_in es p q = line_of (kept es p q)

-- no line holds more than eight, and what is no line nothing
abbrev pub Sound : List Entry → Type 0
Sound es = (p q : ℕ) → length (kept es p q) ≤ depth_of 8 p q

-- its record, if that has arrived
abbrev pub shown : Entry → Option Record
shown e = cond e.arrived (Some e.item) None

-- the entry, marked if it is on the line
abbrev pub marked : ℕ → ℕ → Entry → Entry
marked p q e = cond (on p q e) (record { ends = e.ends; item = e.item; arrived = true }) e

-- the first entry of the line is at i
pub record First (es : List Entry) (p q i : ℕ) : Type 0 where
  pub within : i < length es
  pub before : (k : ℕ) (d : Entry) → k < i → on p q (slice_index_or es k d) ≡ false
  pub here : (d : Entry) → on p q (slice_index_or es i d) ≡ true
