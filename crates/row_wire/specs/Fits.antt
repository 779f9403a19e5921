-- No line of a row holds more than its ring does. Assumes nothing.
use Rattle.std.specs.Prelude.{ℕ, ◌+◌, ◌*◌, ◌≤◌, true, false, cond, List, [], length, slice_index_or, refl}
use Rattle.std.proofs.lemmas.Bool.{leb-true}
use Rattle.records.specs.declared.notice.Record.{Record}
use Rattle.wires.specs.Lines.{is_line, depth_of}
use Rattle.row_wire.specs.Rows.{held_at, Sound}

pub line_fits : (rings : List (List Record)) → Sound rings → (p q : ℕ) → length (held_at rings p q) ≤ depth_of 16 p q
line_fits rings s p q = elim (is_line p q) as (λ b. length (cond b (slice_index_or rings (p * 8 + q) []) []) ≤ cond b 16 0) [
  | true ↦ s (p * 8 + q)
  | false ↦ leb-true 0 0 refl
]
