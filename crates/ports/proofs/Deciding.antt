-- What a decide that is not refused has passed. Assumes nothing.
use Rattle.std.proofs.Common.{◌≡◌, ℕ, ◌+◌, ◌≤◌, ◌<◌, Bool, true, false, not, ◌||◌, eqb, ltb, length, Some, None, Option, SomeIff, refl, ap, ◌∙◌, arith}
use Rattle.std.proofs.lemmas.Bool.{or_parts, not-false, eqb-true, ltb-false}
use Rattle.records.specs.declared.fault.NetFault.{NetFault}
use Rattle.records.specs.declared.fault.NetFault.TheVariants.{WrongNumber, WrongCut, StepUsedUp, OwnWaitingFull}
use Rattle.model.specs.Views.{PortView}
use Rattle.model.specs.Batches.{sent_to, count_from}
use Rattle.model.specs.Calls.{Decide, decision}
use Rattle.model.specs.Stamping.{stampable}
use Rattle.model.specs.Refusals.{◌when◌else◌, cuts_fit}
use Rattle.ports.specs.Ports.{number_of, deciding_fault}

-- tests that did not refuse
past : (f : NetFault) (b : Bool) (next : Option NetFault) → f when b else next ≡ None → (b ≡ false) × (next ≡ None)
past f true next e = let z : ◌≡◌ {A = ℕ} 0 1 = cc in absurd (omega arith)
past f false next e = (refl, e)

module _ (o : PortView) (x : Decide) (none : deciding_fault o x ≡ None) where
  after_number : ((not (eqb x.number o.number) || ltb 65535 x.number) ≡ false) × (WrongCut when not (cuts_fit o x.cuts) else StepUsedUp when not (stampable (decision o x)) else OwnWaitingFull when ltb 8 (count_from x.port o.waiting + length (sent_to x.port (decision o x))) else None ≡ None)
  after_number = past WrongNumber _ _ none

  after_cuts : (not (cuts_fit o x.cuts) ≡ false) × (StepUsedUp when not (stampable (decision o x)) else OwnWaitingFull when ltb 8 (count_from x.port o.waiting + length (sent_to x.port (decision o x))) else None ≡ None)
  after_cuts = past WrongCut _ _ after_number.1

  after_steps : (not (stampable (decision o x)) ≡ false) × (OwnWaitingFull when ltb 8 (count_from x.port o.waiting + length (sent_to x.port (decision o x))) else None ≡ None)
  after_steps = past StepUsedUp _ _ after_cuts.1

  pub number_is : x.number ≡ o.number
  number_is = eqb-true _ _ (not-false _ (or_parts _ _ after_number.0).0)

  pub number_low : x.number ≤ 65535
  number_low = ltb-false _ _ (or_parts _ _ after_number.0).1

  -- the number that comes next, as `checked_add` finds it
  pub number_after : (r : Option ℕ) → SomeIff r (x.number + 1 < 65536) (x.number + 1) → number_of r ≡ o.number + 1
  number_after (Some n) next = next.1 ∙ ap (λ n. n + 1) number_is
  number_after None beyond = omega (arith, beyond, number_is, number_low)

  pub own_fit : count_from x.port o.waiting + length (sent_to x.port (decision o x)) ≤ 8
  own_fit = ltb-false _ _ (past OwnWaitingFull _ None after_steps.1).0
