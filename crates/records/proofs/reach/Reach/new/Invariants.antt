use Rattle.std.proofs.Common.{◌≡◌, length}
use Rattle.records.proofs.ReachLaws.{Filled}
use Rattle.records.proofs.reach.Reach.new.Given as goal

abbrev pub invariant-loop-port : goal.invariant-loop-port
invariant-loop-port l = (length l.table ≡ 8) × Filled l.masks l.table l.port
