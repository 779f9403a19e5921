use Rattle.std.proofs.Common.{◌-◌, length}
use Rattle.events_tests.proofs.streams.verdict.Given as goal

abbrev pub decreases-fields : goal.decreases-fields
decreases-fields l = length l.reader.stream.now - l.reader.place
