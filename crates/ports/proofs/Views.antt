-- What a port means, field by field. Assumes nothing.
use Rattle.std.proofs.Common.{◌≡◌, ℕ, ◌<◌, true, false, not, ◌||◌, eqb, ltb, leb, List, length, get_or, set, None, Ok, Err, Result, sym, ap, ◌∙◌, subst, ⊎_elim, arith}
use mathlib.Core.Path.{fun_ext}
use Rattle.std.proofs.lemmas.List.{get_or-set_same, get_or-set_other}
use Rattle.std.proofs.lemmas.Bool.{cases_eq, both_ways, cond-true, cond-false, eq-eqb, ne_eqb, or_parts, or_from, not-false, eqb-true, leb-false, le-ltb, lt-leb}
use Rattle.model.specs.Views.{PortView}
use Rattle.model.specs.Steps.{changed, after_fetch}
use Rattle.model.specs.Batches.{goes_to, count_from}
use Rattle.records.specs.declared.notice.Decided.{Decided}
use Rattle.records.specs.declared.notice.Record.{Record}
use Rattle.records.specs.declared.notice.Record.TheVariants.{Notice as Carries}
use Rattle.ports.specs.Held.{waiting_of, crowded, Joins}
use Rattle.ports.specs.declared.waiting.Waiting.{Waiting}
use Rattle.records.specs.Keys.{decided_before}
use Rattle.records.specs.declared.fault.NetFault.{NetFault}
use Rattle.ordered.specs.Orders.{all_pass, placed}
use Rattle.ordered.proofs.Rises.{all_placed}
use Rattle.ports.specs.Ports.{port_view, misfits, admit_fault, Became, Admits}
use Rattle.ports.specs.declared.port.Port.{Port}

-- views are the same where each field is
pub view_same : (v w : PortView) → v.undecided ≡ w.undecided → v.given ≡ w.given → v.settled ≡ w.settled → v.clock ≡ w.clock → v.number ≡ w.number → v.floor ≡ w.floor → v.clearance ≡ w.clearance → v.waiting ≡ w.waiting → v ≡ w
view_same v w undecided given settled clock number floor clearance waiting = λ i. record {
  undecided = undecided i;
  given = given i;
  settled = settled i;
  clock = clock i;
  number = number i;
  floor = floor i;
  clearance = clearance i;
  waiting = waiting i;
}

-- one place written
pub set_changed : {X : Type 0} (xs : List X) (k : ℕ) (x d : X) → k < length xs → (λ j. get_or (set xs k x) j d) ≡ changed k x (λ j. get_or xs j d)
set_changed xs k x d lt = fun_ext (λ j.
    ⊎_elim
    (λ (e : j ≡ k). ap (λ n. get_or (set xs k x) n d) e ∙ get_or-set_same xs k x d lt ∙ sym (cond-true (eqb j k) x (get_or xs j d) (eq-eqb j k e)))
    (λ (ne : j ≡ k → ⊥). get_or-set_other xs k j x d ne ∙ sym (cond-false (eqb j k) x (get_or xs j d) (ne_eqb j k ne)))
    (cases_eq j k))

-- a notice that fits is of the source, addressed here, and finds fewer than eight of the source
module _ (own source : ℕ) (d : Decided) (ds : List Decided) (fits : misfits own source (Carries d) ds ≡ false) where
  parts : (not (eqb d.stamp.port source) ≡ false) × ((not (goes_to own d) || leb 8 (count_from source ds)) ≡ false)
  parts = or_parts _ _ fits

  pub fits_source : d.stamp.port ≡ source
  fits_source = eqb-true _ _ (not-false _ parts.0)

  pub fits_here : goes_to own d ≡ true
  fits_here = not-false _ (or_parts _ _ parts.1).0

  fits_few : count_from source ds < 8
  fits_few = leb-false _ _ (or_parts _ _ parts.1).1

  pub fits_room : source < 8 → crowded d.stamp.port ds ≡ false
  fits_room low = subst (λ p. crowded p ds ≡ false) (sym fits_source) (or_from (ltb 7 source) (leb 8 (count_from source ds)) (le-ltb 7 source (omega arith)) (lt-leb 8 (count_from source ds) fits_few))

pub admit_none : (p : Port) (source : ℕ) (x : Record) → source < 8 → misfits p.own source x (port_view p).waiting ≡ false → admit_fault p source x ≡ None
admit_none p source x low fits = cond-false (ltb 7 source) _ _ (le-ltb 7 source (omega arith)) ∙ cond-false (misfits p.own source x (port_view p).waiting) _ _ fits

-- what waits is addressed to the port still, when a notice that is tries to join
pub addressed_joined : {U : Type 0} (own : ℕ) (d : Decided) (old new : Waiting) (r : Result U NetFault) → Joins old new d r → all_pass (goes_to own) (waiting_of old) ≡ true → goes_to own d ≡ true → all_pass (goes_to own) (waiting_of new) ≡ true
addressed_joined own d old new (Ok u) e all here = ap (all_pass (goes_to own)) e.1 ∙ all_placed decided_before d (goes_to own) (waiting_of old) all here
addressed_joined own d old new (Err f) e all here = ap (λ w. all_pass (goes_to own) (waiting_of w)) e.2 ∙ all

-- a notice for which there is a place does join
pub admits_joined : {U : Type 0} (old new : Port) (source : ℕ) (x : Record) (d : Decided) (w : Waiting) (r : Result U NetFault) → crowded d.stamp.port (waiting_of old.waiting) ≡ false → Joins old.waiting w d r → (waiting_of w ≡ placed decided_before d (waiting_of old.waiting) → (admit_fault old source x ≡ None) × Became old new (after_fetch source x (port_view old))) → Admits old new source x r
admits_joined old new source x d w (Ok u) free j then = then j.1
admits_joined old new source x d w (Err f) free j then = absurd (both_ways _ free j.1)
