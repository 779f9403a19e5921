use Rattle.std.proofs.Common.{sym, ◌∙◌, arith}
use Rattle.std.proofs.lemmas.Bool.{le-ltb}
use Rattle.records.proofs.MaskLaws.{none_above}
use Rattle.records.proofs.mask.Mask.names.Goals as goal

pub returns-else-port-lt8 : goal.returns-else-port-lt8
returns-else-port-lt8 c = le-ltb c.args.port 8 (omega arith) ∙ sym (none_above c.args.self.bits c.args.port (omega arith) (omega arith))
