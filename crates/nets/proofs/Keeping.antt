-- How a call's promise follows from what it did, and the tests of a table. Assumes nothing.
use Rattle.std.proofs.Common.{◌≡◌, ℕ, ◌<◌, Bool, true, false, ◌||◌, ltb, Some, Err, Option, Result, sym, refl, ap, ◌∙◌, arith}
use Rattle.std.proofs.lemmas.Bool.{cond-true, cond-false, ltb-true, not-false, or_parts}
use Rattle.std.proofs.lemmas.Result.{err_from_is_err_and}
use Rattle.std.specs.Result.{IsErrAnd}
use Rattle.records.specs.declared.reach.Reach.{Reach}
use Rattle.records.specs.declared.fault.NetFault.{NetFault}
use Rattle.boards.specs.Rules.{Rule}
use Rattle.model.specs.Calls.{Call}
use Rattle.model.specs.Histories.{Told, History, Step, Lived, refused}
use Rattle.model.specs.Refusals.{fault_of, ◌when◌else◌}
use Rattle.model.specs.Views.{View, outside}
use Rattle.model.proofs.Sound.{lives_on}
use Rattle.nets.specs.Promises.{Kept, KeptAfter}
use Rattle.nets.specs.Views.{table_of}

module _ {depth : ℕ} {rule : Rule} where
  pub kept : {v w : View} {e : Told} → Step depth rule v e w → Kept depth rule v e w
  kept s = record { does = s; lives = λ h l. lives_on l s }

  pub kept_refused : (v : View) (c : Call) (f : NetFault) → fault_of depth v c ≡ Some f → Kept depth rule v (refused c f) v
  kept_refused v c f e = kept record { fault = e; same = refl }

  pub kept_after : {v w : View} {e : Told} → ((h : History) → Lived depth rule h v → Step depth rule v e w) → KeptAfter depth rule v e w
  kept_after s h l = (s h l, lives_on l (s h l))

-- a fault that `?` hands on
pub handed_on : {T E : Type 0} {f : E} (r : Result T E) → IsErrAnd r (λ y. y ≡ f) → r ≡ Err f
handed_on r e = let p = err_from_is_err_and r e in p.1 ∙ ap Err p.2

-- a fault whose test passes, and one whose test does not
pub stops : (f : NetFault) (b : Bool) (next : Option NetFault) → b ≡ true → (f when b else next) ≡ Some f
stops f b next e = cond-true b (Some f) next e

pub passes : (f : NetFault) (b : Bool) (next : Option NetFault) → b ≡ false → (f when b else next) ≡ next
passes f b next e = cond-false b (Some f) next e

-- the answer of two tests that are asked together
pub any_of : {a b x y r : Bool} → a ≡ x → b ≡ y → (a || b) ≡ r → (x || y) ≡ r
any_of {a} {b} {x} {y} p q e = ap (λ z. z || y) (sym p) ∙ ap (λ z. a || z) (sym q) ∙ e

-- a port of the table is one of eight
pub inside_table : (r : Reach) (p : ℕ) → outside (table_of r) p ≡ false → p < 8
inside_table r p e = omega (arith, ltb-true p r.ports (not-false (ltb p r.ports) e), r.count.1)

-- of two ports that are asked together, each is
pub first_inside : (r : Reach) (p q : ℕ) → (outside (table_of r) p || outside (table_of r) q) ≡ false → p < 8
first_inside r p q e = inside_table r p (or_parts (outside (table_of r) p) (outside (table_of r) q) e).0

pub second_inside : (r : Reach) (p q : ℕ) → (outside (table_of r) p || outside (table_of r) q) ≡ false → q < 8
second_inside r p q e = inside_table r q (or_parts (outside (table_of r) p) (outside (table_of r) q) e).1
