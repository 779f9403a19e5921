-- When a call is refused, and by which fault: the first in checking order whose test passes. Assumes nothing.
use Rattle.std.specs.Prelude.{ℕ, ◌+◌, ◌-◌, Bool, true, false, cond, not, ◌&&◌, ◌||◌, ltb, leb, List, [], ◌∷◌, length, Some, None, Option, ◌==◌, nat_eq, nat_le, nat_lt, slice_index}
use Rattle.records.specs.Masks.{named}
use Rattle.records.specs.declared.fault.NetFault.{NetFault}
use Rattle.records.specs.declared.fault.NetFault.TheVariants.{NoSuchPort, OutOfReach, NoSuchDispatcher, WrongContent, WrongDestinations, CountUsedUp, UndecidedFull, WorkingListShort, WrongNumber, WrongCut, StepUsedUp, OwnWaitingFull, LineFull, NothingArrived, SourceWaitingFull, NothingWaits, Held}
use Rattle.records.specs.declared.stamp.Stamp.{Stamp}
use Rattle.records.specs.declared.notice.Decided.{Decided}
use Rattle.records.specs.declared.notice.Record.{Record}
use Rattle.records.specs.declared.notice.Record.TheVariants.{Notice as Carries, Empty}
use Rattle.wires.specs.Lines.{Line, Lines, depth_of}
use Rattle.wires.specs.Growths.{Extra, to_each}
use Rattle.model.specs.Lists.{every}
use Rattle.model.specs.Views.{Table, PortView, View, sends, outside}
use Rattle.model.specs.Stamping.{next_pair, step_fits, stampable}
use Rattle.model.specs.Holding.{holders}
use Rattle.model.specs.Batches.{sent_to, copies_on, count_from}
use Rattle.model.specs.Calls.{HandIn, Decide, Call, hand_in, decide, clear, bring, fetch, release, decision}

infixr 20 ◌when◌else◌
-- this fault where the test passes, and otherwise what the next tests give
abbrev pub ◌when◌else◌ : NetFault → Bool → Option NetFault → Option NetFault
f when b else next = cond b (Some f) next

-- the mask names no port but the port itself and those in its reach. It is one byte: no port is above 7
abbrev pub in_reach : Table → ℕ → ℕ → Bool
in_reach t port bits = nat_lt bits 256 && every 8 (λ q. not (named bits q) || (q == port || sends t port q))

abbrev pub hand_in_fault : View → HandIn → Option NetFault
hand_in_fault v x =
    NoSuchPort when outside v.table x.port else
    NoSuchDispatcher when ltb 3 x.dispatcher else
    WrongContent when outside v.table x.home || (nat_lt 15 x.berth || (not (x.action == 1 || x.action == 2) || x.vessel == 0)) else
    WrongDestinations when nat_eq x.to 0 || not (in_reach v.table x.port x.to) else
    CountUsedUp when leb 65535 ((v.port x.port).given x.dispatcher) else
    UndecidedFull when leb 16 (length (v.port x.port).undecided) else
    None

-- each cut is at least the last count decided and at most the last handed in
abbrev pub cuts_fit : PortView → List ℕ → Bool
cuts_fit o cuts = every 4 (λ d. nat_le (o.settled d) (slice_index cuts d) && nat_le (slice_index cuts d) (o.given d))

-- each line from the port has as many free places, depth less length, as it is to get records
abbrev pub room : ℕ → Lines → ℕ → Extra → Bool
room depth lines port extra = every 8 (λ q. leb (length (extra port q)) (depth_of depth port q - length (lines port q).held))

abbrev pub decide_fault : ℕ → View → Decide → Option NetFault
decide_fault depth v x =
    let o : PortView = v.port x.port in
    let ds : List Decided = decision o x in
    NoSuchPort when outside v.table x.port else
    WorkingListShort when ltb x.places 16 else
    WrongNumber when not (x.number == o.number) || ltb 65535 x.number else
    WrongCut when not (cuts_fit o x.cuts) else
    StepUsedUp when not (stampable ds) else
    OwnWaitingFull when ltb 8 (count_from x.port o.waiting + length (sent_to x.port ds)) else
    LineFull when not (room depth v.line x.port (copies_on x.port ds)) else
    None

-- a clearance goes on the line to each port that the table names: an empty notice of this stamp
abbrev pub clearance_on : Table → Stamp → Extra
clearance_on t s = to_each s.port (t.mask s.port) (Empty s)

-- the stamp of a clearance: by the same rule, from the bare reading
abbrev pub clearance_stamp : View → ℕ → ℕ → Stamp
clearance_stamp v port reading = record { pair = next_pair (v.port port).floor reading; port = port }

abbrev pub clear_fault : ℕ → View → ℕ → ℕ → Option NetFault
clear_fault depth v port reading =
    let s : Stamp = clearance_stamp v port reading in
    NoSuchPort when outside v.table port else
    StepUsedUp when not (step_fits s.pair) else
    LineFull when not (room depth v.line port (clearance_on v.table s)) else
    None

abbrev pub bring_fault : View → ℕ → ℕ → Option NetFault
bring_fault v from to =
    NoSuchPort when outside v.table from || outside v.table to else
    OutOfReach when not (sends v.table from to) else
    None

abbrev pub oldest_of : List Record → Option Record
oldest_of [] = None
oldest_of (x ∷ xs) = Some x

-- the oldest record of a line, if it has arrived
abbrev pub oldest : Line → Option Record
oldest l = cond (l.arrived == 0) None (oldest_of l.held)

abbrev pub is_none : {X : Type 0} → Option X → Bool
is_none None = true
is_none (Some x) = false

abbrev pub is_notice : Option Record → Bool
is_notice None = false
is_notice (Some (Carries d)) = true
is_notice (Some (Empty s)) = false

abbrev pub fetch_fault : View → ℕ → ℕ → Option NetFault
fetch_fault v port source =
    let x : Option Record = oldest (v.line source port) in
    NoSuchPort when outside v.table port || outside v.table source else
    OutOfReach when not (sends v.table source port) else
    NothingArrived when is_none x else
    SourceWaitingFull when is_notice x && leb 8 (count_from source (v.port port).waiting) else
    None

-- the mask of those who hold the first of these notices
abbrev pub held_by : Table → ℕ → PortView → List Decided → ℕ
held_by t port o [] = 0
held_by t port o (d ∷ ds) = holders t port o d.stamp.pair

abbrev pub release_fault : View → ℕ → Option NetFault
release_fault v port =
    let o : PortView = v.port port in
    let m : ℕ = held_by v.table port o o.waiting in
    NoSuchPort when outside v.table port else
    NothingWaits when nat_eq (length o.waiting) 0 else
    Held (record { bits = m }) when ltb 0 m else
    None

-- the fault that a call meets on a net whose wire has this depth
abbrev pub fault_of : ℕ → View → Call → Option NetFault
fault_of depth v (hand_in x) = hand_in_fault v x
fault_of depth v (decide x) = decide_fault depth v x
fault_of depth v (clear port reading) = clear_fault depth v port reading
fault_of depth v (bring from to) = bring_fault v from to
fault_of depth v (fetch port source) = fetch_fault v port source
fault_of depth v (release port) = release_fault v port
