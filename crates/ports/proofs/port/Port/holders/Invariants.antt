use Rattle.std.proofs.Common.{◌≡◌, ◌&&◌, get_or, None}
use Rattle.records.specs.Reaching.{sends}
use Rattle.model.specs.Holding.{holds}
use Rattle.model.specs.Lists.{mask_of}
use Rattle.ports.proofs.port.Port.holders.Given as goal

abbrev pub invariant-loop-f : goal.invariant-loop-f
invariant-loop-f l = l.bits ≡ mask_of l.f (λ f. sends l.reach.masks f l.self.own && holds (get_or l.self.clearances f None) l.pair)
