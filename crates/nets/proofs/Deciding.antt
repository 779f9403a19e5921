-- When a decide is refused, and when not. Assumes nothing.
use Rattle.std.proofs.Common.{◌≡◌, ℕ, ◌+◌, ◌<◌, ◌≤◌, Bool, true, false, not, ◌||◌, eqb, ltb, List, length, get_or, Some, None, Ok, Err, Option, Result, sym, refl, ap, ◌∙◌, subst, arith}
use Rattle.std.proofs.lemmas.Bool.{lt-ltb, le-ltb}
use Rattle.std.specs.Result.{IsOk}
use Rattle.records.specs.declared.fault.NetFault.{NetFault}
use Rattle.records.specs.declared.fault.NetFault.TheVariants.{NoSuchPort, WorkingListShort, WrongNumber, WrongCut, StepUsedUp, OwnWaitingFull, LineFull}
use Rattle.batches.specs.declared.batch.Batch.{Batch}
use Rattle.wires.specs.Lines.{Lines}
use Rattle.wires.specs.Growths.{Extra, Grown}
use Rattle.sends.specs.Sendings.{AllOrNone}
use Rattle.model.specs.Batches.{sent_to, copies_on, count_from}
use Rattle.model.specs.Calls.{Decide, decision}
use Rattle.model.specs.Refusals.{decide_fault, cuts_fit, room, ◌when◌else◌}
use Rattle.model.specs.Stamping.{stampable}
use Rattle.model.specs.Steps.{after_decide}
use Rattle.model.specs.Views.{PortView, View, outside}
use Rattle.ports.specs.declared.port.Port.{Port}
use Rattle.ports.specs.Ports.{port_view, deciding, deciding_fault, Decides, Became}
use Rattle.nets.specs.Views.{ports_of}
use Rattle.nets.proofs.Keeping.{stops, passes}
use Rattle.nets.proofs.Ports.{Numbered, port_is, own_is}

-- four tests, and what comes after them
abbrev four : Bool → Bool → Bool → Bool → Option NetFault → Option NetFault
four a b c d next = WrongNumber when a else WrongCut when b else StepUsedUp when c else OwnWaitingFull when d else next

none_some : {f : NetFault} {A : Type 0} → ◌≡◌ {A = Option NetFault} None (Some f) → A
none_some e = let z : ◌≡◌ {A = ℕ} 0 1 = cc in absurd (omega arith)

met : (a b c d : Bool) (next : Option NetFault) (f : NetFault) → four a b c d None ≡ Some f → four a b c d next ≡ Some f
met true b c d next f e = e
met false true c d next f e = e
met false false true d next f e = e
met false false false true next f e = e
met false false false false next f e = none_some e

unmet : (a b c d : Bool) (next : Option NetFault) → four a b c d None ≡ None → four a b c d next ≡ next
unmet true b c d next e = none_some (sym e)
unmet false true c d next e = none_some (sym e)
unmet false false true d next e = none_some (sym e)
unmet false false false true next e = none_some (sym e)
unmet false false false false next e = refl

module _ (depth : ℕ) (v : View) (x : Decide) (there : outside v.table x.port ≡ false) where
  abbrev o : PortView
  o = v.port x.port

  abbrev free : Bool
  free = room depth v.line x.port (copies_on x.port (decision o x))

  pub too_short : x.places < 16 → decide_fault depth v x ≡ Some WorkingListShort
  too_short lt = passes NoSuchPort (outside v.table x.port) _ there ∙ stops WorkingListShort (ltb x.places 16) _ (lt-ltb x.places 16 lt)

  abbrev other_number : Bool
  other_number = not (eqb x.number o.number) || ltb 65535 x.number

  abbrev other_cuts : Bool
  other_cuts = not (cuts_fit o x.cuts)

  abbrev no_step : Bool
  no_step = not (stampable (decision o x))

  abbrev own_full : Bool
  own_full = ltb 8 (count_from x.port o.waiting + length (sent_to x.port (decision o x)))

  module _ (long : 16 ≤ x.places) where
    past_both : decide_fault depth v x ≡ four other_number other_cuts no_step own_full (LineFull when not free else None)
    past_both = passes NoSuchPort (outside v.table x.port) _ there ∙ passes WorkingListShort (ltb x.places 16) _ (le-ltb x.places 16 long)

    pub port_refuses : (f : NetFault) → deciding_fault o x ≡ Some f → decide_fault depth v x ≡ Some f
    port_refuses f e = past_both ∙ met other_number other_cuts no_step own_full (LineFull when not free else None) f e

    module _ (planned : deciding_fault o x ≡ None) where
      pub no_room : free ≡ false → decide_fault depth v x ≡ Some LineFull
      no_room e = past_both ∙ unmet other_number other_cuts no_step own_full (LineFull when not free else None) planned ∙ stops LineFull (not free) None (ap not e)

      pub can_decide : free ≡ true → decide_fault depth v x ≡ None
      can_decide e = past_both ∙ unmet other_number other_cuts no_step own_full (LineFull when not free else None) planned ∙ passes LineFull (not free) None (ap not e)

-- what the port at its place was asked is what the net was asked: neither its tests nor its batch look at the working list
module _ (ps : List Port) (x : Decide) (n : Numbered ps) (lt : x.port < 8) (d : Port) where
  abbrev p : Port
  p = get_or ps x.port d

  abbrev asked : Decide
  asked = deciding p x.number x.cuts

  abbrev of_port : ℕ → Decide
  of_port k = record { port = k; number = x.number; cuts = x.cuts; places = x.places }

  pub fault_is : deciding_fault (ports_of ps x.port) x ≡ deciding_fault (port_view p) asked
  fault_is = ap (λ o. deciding_fault o x) (port_is ps x.port n lt d) ∙ ap (λ k. deciding_fault (port_view p) (of_port k)) (sym (own_is ps x.port n lt d))

  pub decision_is : decision (ports_of ps x.port) x ≡ decision (port_view p) asked
  decision_is = ap (λ o. decision o x) (port_is ps x.port n lt d) ∙ ap (λ k. decision (port_view p) (of_port k)) (sym (own_is ps x.port n lt d))

  pub after_is : after_decide asked (port_view p) ≡ after_decide x (port_view p)
  after_is = ap (λ k. after_decide (of_port k) (port_view p)) (own_is ps x.port n lt d)

  -- what it planned it then decides
  pub decided_so : (new : Port) (r : Result Batch NetFault) → deciding_fault (ports_of ps x.port) x ≡ None → Decides p new asked r → Became p new (after_decide x (port_view p))
  decided_so new (Ok b) e a = subst (Became p new) after_is a.1
  decided_so new (Err f) e a = none_some (sym e ∙ fault_is ∙ a.0)

  pub decided_ok : (new : Port) (r : Result Batch NetFault) → deciding_fault (ports_of ps x.port) x ≡ None → Decides p new asked r → IsOk r
  decided_ok new (Ok b) e a = refl
  decided_ok new (Err f) e a = none_some (sym e ∙ fault_is ∙ a.0)

-- lines with room get the copies
pub sent_so : {W : Type 0} (line : W → Lines) (depth : ℕ) (old new : W) (port : ℕ) (extra : Extra) (r : Result (Unit {0}) NetFault) → room depth (line old) port extra ≡ true → AllOrNone line depth old new port extra r → Grown (line old) (line new) extra
sent_so line depth old new port extra (Ok u) e a = a.lines
sent_so line depth old new port extra (Err f) e a =
    let clash : ◌≡◌ {A = Bool} true false = sym e ∙ a.1.full in
    let z : ◌≡◌ {A = ℕ} 0 1 = cc in
    absurd (omega arith)
