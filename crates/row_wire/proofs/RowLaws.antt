-- What a row of empty rings means. Assumes nothing.
use Rattle.std.specs.Prelude.{◌≡◌, ℕ, ◌+◌, ◌*◌, ◌<◌, ◌≤◌, List, [], length, slice_index_or, refl}
use Rattle.std.proofs.Common.{ap, ⊎_elim, arith}
use Rattle.std.proofs.lemmas.List.{get_or_past}
use Rattle.std.proofs.lemmas.Bool.{cases_lt, cond_both}
use Rattle.records.specs.declared.notice.Record.{Record}
use Rattle.wires.specs.Lines.{is_line, Emptied}
use Rattle.wires.proofs.LineLaws.{line_ports}
use Rattle.row_wire.specs.Rows.{all_here, lines_of, Sound}

module _ (rings : List (List Record)) (none : (k : ℕ) → k < 64 → slice_index_or rings k [] ≡ []) where
  pub all_empty : Emptied (lines_of rings)
  all_empty p q =
      ap all_here (cond_both (is_line p q) (slice_index_or rings (p * 8 + q) []) [] (λ xs. xs ≡ []) (λ t. let b = line_ports p q t in none (p * 8 + q) (omega arith)) (λ f. refl))

  pub sound_empty : length rings ≡ 64 → Sound rings
  sound_empty long k =
      ⊎_elim
      (λ (lt : k < 64). omega (arith, ap length (none k lt)))
      (λ (ge : 64 ≤ k). omega (arith, ap length (get_or_past rings k [] (omega arith))))
      (cases_lt k 64)
