use Rattle.std.proofs.Common.{refl, ◌∙◌, arith, length-set}
use Rattle.records.proofs.ReachLaws.{filled_none, filled_more, filled_all, filled_holds, filled_sound}
use Rattle.records.proofs.reach.Reach.new.Goals as goal

pub loop-port-init : goal.loop-port-init
loop-port-init c = (refl, filled_none c.args.masks.now)

pub loop-port-preserved : goal.loop-port-preserved
loop-port-preserved c = (
  length-set c.loop-port.table _ _ ∙ c.loop-port.invariant.0,
  filled_more c.args.masks.now c.loop-port.table c.loop-port.port _ c.loop-port.invariant.1 (omega arith) refl c.if-misnames.ensures,
)

pub invariant_of-result : goal.invariant_of-result
invariant_of-result c =
    let full = filled_all c.args.masks.now c.loop-port.table c.loop-port.port c.loop-port.invariant.1 (omega arith) in
    record { places = c.loop-port.invariant.0; count = (omega arith, omega arith); sound = filled_sound c.args.masks.now c.loop-port.table full }

pub returns : goal.returns
returns c =
    let full = filled_all c.args.masks.now c.loop-port.table c.loop-port.port c.loop-port.invariant.1 (omega arith) in
    record { count = refl; each = filled_holds c.args.masks.now c.loop-port.table full }
