-- The number of a refusal met in a stream, by the part that it came from. Assumes nothing.
use Rattle.std.specs.Prelude.{ℕ}
use Rattle.records.specs.Numbers.{reader_number, table_number}
use Rattle.streams.specs.declared.part.Part.{Part}
use Rattle.streams.specs.declared.part.Part.TheVariants.{Reader, Table}

abbrev pub part_number : Part → ℕ
part_number (Reader fault) = reader_number fault
part_number (Table fault) = table_number fault
