-- What a net means, away from memory, wires and boards. Assumes nothing.
use Rattle.std.specs.Prelude.{◌≡◌, ℕ, ◌<◌, ◌≤◌, Bool, true, not, List, [], None, Option, ◌≢◌, nat_lt}
use Rattle.records.specs.Masks.{named}
use Rattle.records.specs.declared.stamp.Pair.{Pair}
use Rattle.records.specs.declared.notice.Handed.{Handed}
use Rattle.records.specs.declared.notice.Decided.{Decided}
use Rattle.wires.specs.Lines.{Lines, Emptied}
use Rattle.boards.specs.Rules.{Vessels}

-- how many ports there are, and for each the mask of the other ports to which it can send
pub record Table : Type 0 where
  pub ports : ℕ
  pub mask : ℕ → ℕ

-- one port
pub record PortView : Type 0 where
  -- the notices handed in and not decided, by clock, dispatcher, count
  pub undecided : List Handed
  -- for each dispatcher the last count handed in, the last count decided, and the last clock that hand in gave him
  pub given : ℕ → ℕ
  pub settled : ℕ → ℕ
  pub clock : ℕ → ℕ
  -- the next batch number; above 65,535 there is none
  pub number : ℕ
  -- the highest pair among all that the port stamped and the notices released there
  pub floor : Option Pair
  -- the clearance of each source: the pair of the last record fetched from it, below which it will send nothing more
  pub clearance : ℕ → Option Pair
  -- the notices that wait for release, by stamp
  pub waiting : List Decided

pub record View : Type 0 where
  pub table : Table
  pub port : ℕ → PortView
  pub line : Lines
  -- the list that a watching port's board shows for a home port and berth
  pub shown : ℕ → ℕ → ℕ → Vessels

-- port f can send to port p
abbrev pub sends : Table → ℕ → ℕ → Bool
sends t f p = named (t.mask f) p

-- the number is no port's
abbrev pub outside : Table → ℕ → Bool
outside t p = not (nat_lt p t.ports)

-- 2 to 8 ports, each sending only to others of the table
pub record Reaches (t : Table) : Type 0 where
  pub least : 2 ≤ t.ports
  pub most : t.ports ≤ 8
  pub inside : (f p : ℕ) → sends t f p ≡ true → (f < t.ports) × (p < t.ports) × (p ≢ f)

-- a port of a net that was just opened
abbrev pub fresh : PortView
fresh = record { undecided = []; given = λ _. 0; settled = λ _. 0; clock = λ _. 0; number = 0; floor = None; clearance = λ _. None; waiting = [] }

-- a net that was just opened: lists, lines and boards are empty, clearances missing
pub record Opened (v : View) : Type 0 where
  pub table : Reaches v.table
  pub ports : (p : ℕ) → v.port p ≡ fresh
  pub lines : Emptied v.line
  pub boards : (p home berth : ℕ) → v.shown p home berth ≡ []
