use Rattle.std.proofs.Common.{sym, refl, arith}
use Rattle.records.proofs.Bits.{low, turned_off, turned_away}
use Rattle.records.proofs.mask.Mask.without.Goals as goal

pub overflow_shl-bits : goal.overflow_shl-bits
overflow_shl-bits c = low c.args.self.bits c.args.port (omega arith) (sym c.if-names.ensures)

pub returns-then-names-clause-value : goal.returns-then-names-clause-value
returns-then-names-clause-value c = turned_away c.args.self.bits c.args.port _ (omega arith) (sym c.if-names.ensures) refl

pub returns-then-names-clause-others : goal.returns-then-names-clause-others
returns-then-names-clause-others c = turned_off c.args.self.bits c.args.port _ (omega arith) (sym c.if-names.ensures) refl
