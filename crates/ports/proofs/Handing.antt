-- What a dispatcher hands in. Assumes nothing.
use Rattle.std.proofs.Common.{◌≡◌, ℕ, ◌+◌, ◌<◌, ◌≤◌, max, ltb, leb, length, None, Ok, Err, Result, refl, ◌∙◌, arith}
use Rattle.std.proofs.lemmas.Bool.{cond-false, le-ltb, lt-leb}
use Rattle.ordered.specs.Orders.{placed}
use Rattle.records.specs.Keys.{handed_before}
use Rattle.records.specs.declared.fault.NetFault.{NetFault}
use Rattle.records.specs.declared.mask.Mask.{Mask}
use Rattle.records.specs.declared.notice.Action.{Action}
use Rattle.records.specs.declared.notice.Action.TheVariants.{Take, Leave}
use Rattle.records.specs.declared.notice.Handed.{Handed}
use Rattle.model.specs.Calls.{action_of, handed_of}
use Rattle.model.specs.Views.{PortView}
use Rattle.ports.specs.declared.undecided.Undecided.{Undecided}
use Rattle.ports.specs.Held.{undecided_of, Adds}
use Rattle.ports.specs.Ports.{port_view, action_number, handing_in, handing_fault}
use Rattle.ports.specs.declared.port.Port.{Port}

action_same : (a : Action) → a ≡ action_of (action_number a)
action_same Take = refl
action_same Leave = refl

pub handing_none : (o : PortView) (d : ℕ) → d ≤ 3 → o.given d < 65535 → length o.undecided < 16 → handing_fault o d ≡ None
handing_none o d low count room = cond-false (ltb 3 d) _ _ (le-ltb 3 d low) ∙ cond-false (leb 65535 (o.given d)) _ _ (lt-leb 65535 (o.given d) count) ∙ cond-false (leb 16 (length o.undecided)) _ _ (lt-leb 16 (length o.undecided) room)

-- with room the notice joins
pub added : {U : Type 0} (x : Handed) (old new : Undecided) (r : Result U NetFault) → length (undecided_of old) < 16 → Adds old new x r → undecided_of new ≡ placed handed_before x (undecided_of old)
added x old new (Ok u) room e = e.1
added x old new (Err f) room e = absurd (omega (arith, e.1))

-- the notice as the code makes it
abbrev pub made : Port → ℕ → ℕ → ℕ → Mask → ℕ → ℕ → Action → ℕ → Handed
made p d count clock to home berth action vessel = record { notice = record { source = p.own; dispatcher = d; count = count; to = to; home = home; berth = berth; action = action; vessel = vessel }; clock = clock }

pub made_is : (p : Port) (d reading count clock : ℕ) (to : Mask) (home berth : ℕ) (action : Action) (vessel : ℕ) → count ≡ (port_view p).given d + 1 → clock ≡ max ((port_view p).clock d) reading → made p d count clock to home berth action vessel ≡ handed_of (port_view p) (handing_in p d reading to home berth action vessel)
made_is p d reading count clock to home berth action vessel next e = λ i. made p d (next i) (e i) to home berth (action_same action i) vessel
