-- What a port means, what it refuses, and what each call makes of it. Assumes nothing.
use Rattle.std.specs.Prelude.{◌≡◌, ℕ, ◌+◌, Bool, true, false, not, ◌&&◌, ◌||◌, leb, List, [], map, length, Some, None, Ok, Err, Option, Result, ◌==◌, nat_le, nat_lt, slice_index, slice_index_or}
use Rattle.records.specs.declared.mask.Mask.{Mask}
use Rattle.records.specs.declared.notice.Action.{Action}
use Rattle.records.specs.declared.notice.Action.TheVariants.{Take, Leave}
use Rattle.records.specs.declared.notice.Decided.{Decided}
use Rattle.records.specs.declared.notice.Record.{Record}
use Rattle.records.specs.declared.notice.Record.TheVariants.{Notice as Carries, Empty}
use Rattle.records.specs.declared.fault.NetFault.{NetFault}
use Rattle.records.specs.declared.fault.NetFault.TheVariants.{NoSuchPort, NoSuchDispatcher, CountUsedUp, UndecidedFull, WrongNumber, WrongCut, StepUsedUp, OwnWaitingFull, SourceWaitingFull}
use Rattle.records.specs.declared.stamp.Pair.{Pair}
use Rattle.batches.specs.declared.batch.Batch.{Batch}
use Rattle.batches.specs.Stampings.{batch_of}
use Rattle.model.specs.Views.{PortView}
use Rattle.model.specs.Stamping.{next_pair, step_fits, floor_after, stampable}
use Rattle.model.specs.Holding.{holds}
use Rattle.model.specs.Lists.{mask_of}
use Rattle.records.specs.Reaching.{sends}
use Rattle.model.specs.Batches.{goes_to, sent_to, count_from}
use Rattle.model.specs.Refusals.{◌when◌else◌, cuts_fit}
use Rattle.model.specs.Calls.{HandIn, Decide, decision}
use Rattle.model.specs.Steps.{after_hand_in, after_decide, after_fetch, after_release}
use Rattle.ports.specs.declared.port.Port.{Port}
use Rattle.ports.specs.Held.{undecided_of, waiting_of, Lowest}

-- the number of the next batch; behind 65,535 there is none, and 65,536 stands for that
abbrev pub number_of : Option ℕ → ℕ
number_of None = 65536
number_of (Some n) = n

-- a dispatcher beyond the four has count and clock 0, a source beyond the eight has no clearance
abbrev pub port_view : Port → PortView
port_view p = record {
  undecided = undecided_of p.undecided;
  given = λ d. slice_index (map (λ x. x.given) p.dispatchers) d;
  settled = λ d. slice_index (map (λ x. x.settled) p.dispatchers) d;
  clock = λ d. slice_index (map (λ x. x.clock) p.dispatchers) d;
  number = number_of p.number;
  floor = p.floor;
  clearance = λ f. slice_index_or p.clearances f None;
  waiting = waiting_of p.waiting;
}

-- the port is still the same one, and means this now
pub record Became (old new : Port) (v : PortView) : Type 0 where
  pub own : new.own ≡ old.own
  pub view : port_view new ≡ v

-- HAND IN

-- 1 take, 2 leave
abbrev pub action_number : Action → ℕ
action_number Take = 1
action_number Leave = 2

-- what a dispatcher of the port hands in
abbrev pub handing_in : Port → ℕ → ℕ → Mask → ℕ → ℕ → Action → ℕ → HandIn
handing_in p dispatcher reading to home berth action vessel = record { port = p.own; dispatcher = dispatcher; reading = reading; to = to.bits; home = home; berth = berth; action = action_number action; vessel = vessel }

-- when the port itself refuses what is handed in; the net has looked at its content and destinations before
abbrev pub handing_fault : PortView → ℕ → Option NetFault
handing_fault o dispatcher =
    NoSuchDispatcher when nat_lt 3 dispatcher else
    CountUsedUp when leb 65535 (o.given dispatcher) else
    UndecidedFull when leb 16 (length o.undecided) else
    None

-- the answer is his next count, and the notice is among the undecided; or it was refused, and nothing changed
abbrev pub HandsIn : Port → Port → HandIn → Result ℕ NetFault → Type 0
HandsIn old new x (Ok count) = (handing_fault (port_view old) x.dispatcher ≡ None) × (count ≡ (port_view old).given x.dispatcher + 1) × Became old new (after_hand_in x (port_view old))
HandsIn old new x (Err f) = (handing_fault (port_view old) x.dispatcher ≡ Some f) × (new ≡ old)

-- DECIDE

-- what the port is asked to decide; the working list is the net's
abbrev pub deciding : Port → ℕ → List ℕ → Decide
deciding p number cuts = record { port = p.own; number = number; cuts = cuts; places = 16 }

-- when the port itself refuses to decide; the net then looks for room on its lines
abbrev pub deciding_fault : PortView → Decide → Option NetFault
deciding_fault o x =
    let ds : List Decided = decision o x in
    WrongNumber when not (x.number == o.number) || nat_lt 65535 x.number else
    WrongCut when not (cuts_fit o x.cuts) else
    StepUsedUp when not (stampable ds) else
    OwnWaitingFull when nat_lt 8 (count_from x.port o.waiting + length (sent_to x.port ds)) else
    None

-- the batch is what the port decides, and its floor is the one that this leaves
pub record Planned (o : PortView) (x : Decide) (b : Batch) : Type 0 where
  pub accepted : deciding_fault o x ≡ None
  pub notices : batch_of b ≡ decision o x
  pub floor : b.floor ≡ floor_after o.floor (decision o x)

abbrev pub Plans : Port → Decide → Result Batch NetFault → Type 0
Plans p x (Ok b) = Planned (port_view p) x b
Plans p x (Err f) = deciding_fault (port_view p) x ≡ Some f

-- the batch is decided; or it was refused, and nothing changed
abbrev pub Decides : Port → Port → Decide → Result Batch NetFault → Type 0
Decides old new x (Ok b) = Planned (port_view old) x b × Became old new (after_decide x (port_view old))
Decides old new x (Err f) = (deciding_fault (port_view old) x ≡ Some f) × (new ≡ old)

-- CLEAR

-- the pair that the port stamps as a clearance at this reading; or its step would be above 65,535
abbrev pub Clears : PortView → ℕ → Result Pair NetFault → Type 0
Clears o reading (Ok p) = (p ≡ next_pair o.floor reading) × (step_fits p ≡ true)
Clears o reading (Err f) = (f ≡ StepUsedUp) × (step_fits (next_pair o.floor reading) ≡ false)

-- FETCH

-- a notice that cannot join what waits at port own as one of the source: eight of that source wait, or it is not of that source,
-- or not addressed to the port
abbrev pub misfits : ℕ → ℕ → Record → List Decided → Bool
misfits own source (Carries d) ds = not (d.stamp.port == source) || (not (goes_to own d) || nat_le 8 (count_from source ds))
misfits own source (Empty s) ds = false

-- when a fetched record is refused
abbrev pub admit_fault : Port → ℕ → Record → Option NetFault
admit_fault p source x =
    NoSuchPort when nat_lt 7 source else
    SourceWaitingFull when misfits p.own source x (port_view p).waiting else
    None

-- the record of the source is fetched; or it was refused, and nothing changed
abbrev pub Admits : {U : Type 0} → Port → Port → ℕ → Record → Result U NetFault → Type 0
Admits old new source x (Ok u) = (admit_fault old source x ≡ None) × Became old new (after_fetch source x (port_view old))
Admits old new source x (Err f) = (admit_fault old source x ≡ Some f) × (new ≡ old)

-- RELEASE

-- those who can send to the port, by the masks of a table, and whose clearance holds a notice of this pair
abbrev pub holders_of : List Mask → ℕ → PortView → Pair → ℕ
holders_of masks own o pair = mask_of 8 (λ f. sends masks f own && holds (o.clearance f) pair)

-- the lowest waiting notice is released; where none waits, nothing changed
abbrev pub Releases : Port → Port → Option Decided → Type 0
Releases old new None = ((port_view old).waiting ≡ []) × (new ≡ old)
Releases old new (Some n) = Lowest (port_view old).waiting (Some n) × Became old new (after_release n (port_view old))
