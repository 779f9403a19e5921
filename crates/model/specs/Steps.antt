-- What each call does to a net. Assumes nothing.
use Rattle.std.specs.Prelude.{◌≡◌, ℕ, ◌+◌, Bool, cond, ◌&&◌, List, ◌∷◌, length, Some, None, ◌==◌, nat_le, nat_lt, slice_index}
use Rattle.records.specs.Keys.{handed_before, decided_before}
use Rattle.records.specs.declared.fault.NetFault.{NetFault}
use Rattle.records.specs.declared.stamp.Pair.{Pair}
use Rattle.records.specs.declared.notice.Notice.{Notice}
use Rattle.records.specs.declared.notice.Decided.{Decided}
use Rattle.records.specs.declared.notice.Record.{Record}
use Rattle.records.specs.declared.notice.Record.TheVariants.{Notice as Carries, Empty}
use Rattle.wires.specs.Lines.{Same, Taken, Brought}
use Rattle.wires.specs.Growths.{Grown}
use Rattle.boards.specs.Rules.{Vessels, Turn, Rule}
use Rattle.boards.specs.declared.outcome.Outcome.{Outcome}
use Rattle.boards.specs.declared.outcome.Outcome.TheVariants.{Clash}
use Rattle.ordered.specs.Orders.{placed}
use Rattle.model.specs.Lists.{placed_all, rest}
use Rattle.model.specs.Views.{PortView, View}
use Rattle.model.specs.Stamping.{raised, floor_after}
use Rattle.model.specs.Batches.{left, sent_to, copies_on, copies_of}
use Rattle.model.specs.Calls.{HandIn, Decide, Call, handed_of, decision}
use Rattle.model.specs.Refusals.{hand_in_fault, decide_fault, clear_fault, bring_fault, fetch_fault, release_fault, fault_of, oldest, clearance_on, clearance_stamp}

-- WHAT A CALL MAKES OF A PORT

-- the function with one value put in
abbrev pub changed : {X : Type 0} → ℕ → X → (ℕ → X) → ℕ → X
changed k x f j = cond (j == k) x (f j)

-- a notice is handed in
abbrev pub after_hand_in : HandIn → PortView → PortView
after_hand_in x o = record {
  undecided = placed handed_before (handed_of o x) o.undecided;
  given = changed x.dispatcher (o.given x.dispatcher + 1) o.given;
  settled = o.settled;
  clock = changed x.dispatcher (handed_of o x).clock o.clock;
  number = o.number;
  floor = o.floor;
  clearance = o.clearance;
  waiting = o.waiting;
}

-- a batch is decided: the port's own notices of it join the waiting list
abbrev pub after_decide : Decide → PortView → PortView
after_decide x o = record {
  undecided = left x.cuts o.undecided;
  given = o.given;
  settled = λ d. slice_index x.cuts d;
  clock = o.clock;
  number = o.number + 1;
  floor = floor_after o.floor (decision o x);
  clearance = o.clearance;
  waiting = placed_all decided_before (sent_to x.port (decision o x)) o.waiting;
}

-- a pair is stamped as a clearance
abbrev pub after_clear : Pair → PortView → PortView
after_clear p o = record {
  undecided = o.undecided;
  given = o.given;
  settled = o.settled;
  clock = o.clock;
  number = o.number;
  floor = Some p;
  clearance = o.clearance;
  waiting = o.waiting;
}

abbrev pub pair_of : Record → Pair
pair_of (Carries d) = d.stamp.pair
pair_of (Empty s) = s.pair

-- a notice joins the waiting list; an empty one has done its service as a clearance
abbrev pub joined : Record → List Decided → List Decided
joined (Carries d) ds = placed decided_before d ds
joined (Empty s) ds = ds

-- a record of the source is fetched
abbrev pub after_fetch : ℕ → Record → PortView → PortView
after_fetch source x o = record {
  undecided = o.undecided;
  given = o.given;
  settled = o.settled;
  clock = o.clock;
  number = o.number;
  floor = o.floor;
  clearance = changed source (Some (pair_of x)) o.clearance;
  waiting = joined x o.waiting;
}

-- the lowest waiting notice, n, is released
abbrev pub after_release : Decided → PortView → PortView
after_release n o = record {
  undecided = o.undecided;
  given = o.given;
  settled = o.settled;
  clock = o.clock;
  number = o.number;
  floor = raised o.floor n.stamp.pair;
  clearance = o.clearance;
  waiting = rest o.waiting;
}

-- a board's numbers: watching port and home 0 to 7, berth 0 to 15, vessel not 0
abbrev pub in_range : ℕ → Notice → Bool
in_range port n = nat_lt port 8 && (nat_lt n.home 8 && (nat_le n.berth 15 && nat_lt 0 n.vessel))

-- what the notice makes of its berth's list at the watching port; out of range it clashes
abbrev pub turned : Rule → ℕ → Notice → Vessels → Turn
turned rule port n old = cond (in_range port n) (rule old n.action n.vessel) (record { list = old; outcome = Clash })

-- the notice is about this berth of this home port
abbrev pub is_about : ℕ → ℕ → Notice → Bool
is_about home berth n = n.home == home && n.berth == berth

-- what the boards show when the notice is applied at the port: only the list of its berth there changes
abbrev pub shown_after : Rule → ℕ → Notice → View → ℕ → ℕ → ℕ → Vessels
shown_after rule port n v p home berth =
    let old : Vessels = v.shown p home berth in
    cond (p == port && is_about home berth n) (turned rule p n old).list old

-- WHAT A CALL MAKES OF A NET

-- the port p became this; no other port changed
abbrev pub OnlyPort : View → View → ℕ → (PortView → PortView) → Type 0
OnlyPort v w p after = (q : ℕ) → w.port q ≡ cond (q == p) (after (v.port q)) (v.port q)

abbrev pub SameShown : View → View → Type 0
SameShown v w = (p home berth : ℕ) → w.shown p home berth ≡ v.shown p home berth

pub record HandsIn (v : View) (x : HandIn) (count : ℕ) (w : View) : Type 0 where
  pub accepted : hand_in_fault v x ≡ None
  pub answer : count ≡ (v.port x.port).given x.dispatcher + 1
  pub table : w.table ≡ v.table
  pub ports : OnlyPort v w x.port (after_hand_in x)
  pub lines : Same v.line w.line
  pub boards : SameShown v w

pub record Decides (depth : ℕ) (v : View) (x : Decide) (ds : List Decided) (notices copies : ℕ) (w : View) : Type 0 where
  pub accepted : decide_fault depth v x ≡ None
  pub batch : ds ≡ decision (v.port x.port) x
  pub counted : notices ≡ length ds
  pub sent : copies ≡ copies_of x.port ds
  pub table : w.table ≡ v.table
  pub ports : OnlyPort v w x.port (after_decide x)
  pub lines : Grown v.line w.line (copies_on x.port ds)
  pub boards : SameShown v w

pub record Clears (depth : ℕ) (v : View) (port reading : ℕ) (p : Pair) (w : View) : Type 0 where
  pub accepted : clear_fault depth v port reading ≡ None
  pub pair : p ≡ (clearance_stamp v port reading).pair
  pub table : w.table ≡ v.table
  pub ports : OnlyPort v w port (after_clear p)
  pub lines : Grown v.line w.line (clearance_on v.table (record { pair = p; port = port }))
  pub boards : SameShown v w

pub record Brings (v : View) (from to : ℕ) (w : View) : Type 0 where
  pub accepted : bring_fault v from to ≡ None
  pub table : w.table ≡ v.table
  pub ports : (q : ℕ) → w.port q ≡ v.port q
  pub lines : Brought v.line w.line from to
  pub boards : SameShown v w

pub record Fetches (v : View) (port source : ℕ) (w : View) : Type 0 where
  pub accepted : fetch_fault v port source ≡ None
  pub got : Record
  pub arrived : oldest (v.line source port) ≡ Some got
  pub table : w.table ≡ v.table
  pub ports : OnlyPort v w port (after_fetch source got)
  pub lines : Taken v.line w.line source port got
  pub boards : SameShown v w

pub record Releases (rule : Rule) (v : View) (port : ℕ) (n : Decided) (o : Outcome) (w : View) : Type 0 where
  pub accepted : release_fault v port ≡ None
  pub lowest : (others : List Decided) × ((v.port port).waiting ≡ n ∷ others)
  pub outcome : o ≡ (turned rule port n.notice (v.shown port n.notice.home n.notice.berth)).outcome
  pub table : w.table ≡ v.table
  pub ports : OnlyPort v w port (after_release n)
  pub lines : Same v.line w.line
  pub boards : (p home berth : ℕ) → w.shown p home berth ≡ shown_after rule port n.notice v p home berth

-- the call met this fault, and nothing changed
pub record Refuses (depth : ℕ) (v : View) (c : Call) (f : NetFault) (w : View) : Type 0 where
  pub fault : fault_of depth v c ≡ Some f
  pub same : w ≡ v
