use Rattle.std.proofs.Common.{◌≡◌, Bool, length, take}
use Rattle.std.specs.Fn.{FnReturnsAt}
use Rattle.ordered.proofs.Retains.{Retained}
use Rattle.ordered.proofs.sorted.Sorted.retain.Given as goal

-- a test that the closure computes
abbrev pub invariant-loop-e : goal.invariant-loop-e
invariant-loop-e g l = Retained g.T.Entry.before (λ passes. (x : g.row.T.Denot) (b : Bool) → FnReturnsAt g.F.Fn l.test x b → b ≡ passes x) (length l.fn.self.places) (take l.fn.self.len l.fn.self.places) l.places l.e-index l.len
