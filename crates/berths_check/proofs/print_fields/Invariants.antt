use Rattle.std.proofs.Common.{◌-◌, length}
use Rattle.berths_check.proofs.print_fields.Given as goal

abbrev pub decreases-fields : goal.decreases-fields
decreases-fields l = length l.reader.stream.now - l.reader.place
