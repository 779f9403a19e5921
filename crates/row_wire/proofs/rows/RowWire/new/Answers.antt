use Rattle.std.proofs.Common.{[], rules}
use Rattle.row_wire.proofs.RowLaws.{all_empty, sound_empty}
use Rattle.row_wire.proofs.rows.RowWire.new.Goals as goal

pub invariant_of-result : goal.invariant_of-result
invariant_of-result c =
    record { sound = sound_empty c.from_fn.result (λ k lt. let call = c.from_fn.ensures.items.at k [] lt in search rules) c.from_fn.ensures.items.long }

pub returns : goal.returns
returns c = all_empty c.from_fn.result (λ k lt. let call = c.from_fn.ensures.items.at k [] lt in search rules)
