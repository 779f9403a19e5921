-- What a row of rings, each the list of its records, means as the lines of a wire. Assumes nothing.
use Rattle.std.specs.Prelude.{◌≡◌, ℕ, ◌+◌, ◌*◌, ◌≤◌, cond, List, [], length, Some, None, Option, slice_index_or}
use Rattle.records.specs.declared.notice.Record.{Record}
use Rattle.wires.specs.Lines.{Line, Lines, is_line}

-- where the ring of the line from p to q lies, if there is such a line
abbrev pub place_of : ℕ → ℕ → Option ℕ
place_of p q = cond (is_line p q) (Some (p * 8 + q)) None

-- what the line from p to q holds
abbrev pub held_at : List (List Record) → ℕ → ℕ → List Record
held_at rings p q = cond (is_line p q) (slice_index_or rings (p * 8 + q) []) []

-- a line on which all has arrived
abbrev pub all_here : List Record → Line
all_here xs = record { held = xs; arrived = length xs }

abbrev pub lines_of : List (List Record) → Lines
lines_of rings p q = all_here (held_at rings p q)

-- all that the lines hold has arrived
abbrev pub AllArrived : Lines → Type 0
AllArrived lines = (p q : ℕ) → (lines p q).arrived ≡ length (lines p q).held

-- no ring holds more than sixteen
abbrev pub Sound : List (List Record) → Type 0
Sound rings = (k : ℕ) → length (slice_index_or rings k []) ≤ 16
