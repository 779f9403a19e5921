-- When a clear is refused, and when not. Assumes nothing.
use Rattle.std.proofs.Common.{◌≡◌, ℕ, true, false, not, get_or, Some, None, sym, ap, ◌∙◌}
use Rattle.records.specs.declared.fault.NetFault.TheVariants.{NoSuchPort, StepUsedUp, LineFull}
use Rattle.model.specs.Refusals.{clear_fault, clearance_on, clearance_stamp, room}
use Rattle.model.specs.Stamping.{step_fits}
use Rattle.model.specs.Views.{View, outside}
use Rattle.records.specs.Reaching.{nobody}
use Rattle.records.specs.declared.mask.Mask.{Mask}
use Rattle.records.specs.declared.notice.Record.TheVariants.{Empty}
use Rattle.records.specs.declared.reach.Reach.{Reach}
use Rattle.records.specs.declared.stamp.Pair.{Pair}
use Rattle.wires.specs.Growths.{to_each}
use Rattle.wires.specs.Lines.{Lines}
use Rattle.nets.specs.Views.{table_of}
use Rattle.nets.proofs.Keeping.{stops, passes}

module _ (depth : ℕ) (v : View) (port reading : ℕ) (there : outside v.table port ≡ false) where
  pub step_used : step_fits (clearance_stamp v port reading).pair ≡ false → clear_fault depth v port reading ≡ Some StepUsedUp
  step_used e = passes NoSuchPort (outside v.table port) _ there ∙ stops StepUsedUp (not (step_fits (clearance_stamp v port reading).pair)) _ (ap not e)

  module _ (fits : step_fits (clearance_stamp v port reading).pair ≡ true) where
    pub no_room : room depth v.line port (clearance_on v.table (clearance_stamp v port reading)) ≡ false → clear_fault depth v port reading ≡ Some LineFull
    no_room e = passes NoSuchPort (outside v.table port) _ there ∙ passes StepUsedUp (not (step_fits (clearance_stamp v port reading).pair)) _ (ap not fits) ∙ stops LineFull (not (room depth v.line port (clearance_on v.table (clearance_stamp v port reading)))) None (ap not e)

    pub can_clear : room depth v.line port (clearance_on v.table (clearance_stamp v port reading)) ≡ true → clear_fault depth v port reading ≡ None
    can_clear e = passes NoSuchPort (outside v.table port) _ there ∙ passes StepUsedUp (not (step_fits (clearance_stamp v port reading).pair)) _ (ap not fits) ∙ passes LineFull (not (room depth v.line port (clearance_on v.table (clearance_stamp v port reading)))) None (ap not e)

-- the room that the code looked at is that of the rules
pub on_lines : (depth : ℕ) (lines : Lines) (r : Reach) (port : ℕ) (mask : Mask) (pair next : Pair) → mask ≡ get_or r.masks port nobody → pair ≡ next → room depth lines port (clearance_on (table_of r) (record { pair = next; port = port })) ≡ room depth lines port (to_each port mask.bits (Empty (record { pair = pair; port = port })))
on_lines depth lines r port mask pair next m e =
    ap (λ q. room depth lines port (clearance_on (table_of r) (record { pair = q; port = port }))) (sym e)
    ∙ ap (λ k. room depth lines port (to_each port k.bits (Empty (record { pair = pair; port = port })))) (sym m)
