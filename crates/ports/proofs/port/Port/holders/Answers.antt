use Rattle.std.proofs.Common.{◌≡◌, ℕ, Bool, ◌&&◌, get_or, None, sym, ◌∙◌, arith}
use Rattle.records.specs.Reaching.{sends}
use Rattle.records.specs.declared.reach.Reach.{Reach}
use Rattle.records.specs.declared.stamp.Pair.{Pair}
use Rattle.model.specs.Holding.{holds}
use Rattle.ports.specs.declared.port.Port.{Port}
use Rattle.ports.proofs.Holders.{mask_fits, mask_named, mask_not}
use Rattle.ports.proofs.port.Port.holders.Goals as goal

abbrev test : Port → Reach → Pair → ℕ → Bool
test p reach pair f = sends reach.masks f p.own && holds (get_or p.clearances f None) pair

pub overflow_add-bits : goal.overflow_add-bits
overflow_add-bits c = omega (arith, c.loop-f.invariant, mask_fits c.loop-f.f (test c.args.self.now c.args.reach.now c.args.pair) (omega arith))

pub loop-f-preserved : goal.loop-f-preserved
loop-f-preserved c =
    let t = test c.args.self.now c.args.reach.now c.args.pair in
    let f = c.loop-f.f in
    let is : (c.sends.result && c.holds.result) ≡ t f = cc in
    elim c.if-sends-holds.branch [
      | goal.then-sends-holds w ↦ omega (arith, w.bits-is, c.loop-f.invariant, mask_named f t (omega arith) (sym is ∙ w.if-sends-holds.true))
      | goal.else-sends-holds w ↦ omega (arith, w.bits-is, c.loop-f.invariant, mask_not f t (sym is ∙ w.if-sends-holds.false))
    ]
