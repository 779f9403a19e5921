-- The calls on a net, and what of each becomes part of the net. Assumes nothing.
use Rattle.std.specs.Prelude.{ℕ, ◌+◌, cond, List, ◌==◌}
use Rattle.records.specs.declared.notice.Action.{Action}
use Rattle.records.specs.declared.notice.Action.TheVariants.{Take, Leave}
use Rattle.records.specs.declared.notice.Notice.{Notice}
use Rattle.records.specs.declared.notice.Handed.{Handed}
use Rattle.records.specs.declared.notice.Decided.{Decided}
use Rattle.model.specs.Stamping.{clock_for, stamped}
use Rattle.model.specs.Batches.{batch}
use Rattle.model.specs.Views.{PortView}

-- what a dispatcher hands in
pub record HandIn : Type 0 where
  pub port : ℕ
  pub dispatcher : ℕ
  pub reading : ℕ
  pub to : ℕ
  pub home : ℕ
  pub berth : ℕ
  pub action : ℕ
  pub vessel : ℕ

-- what a decide is called with: the batch number, a cut for each dispatcher, and how many places its working list has
pub record Decide : Type 0 where
  pub port : ℕ
  pub number : ℕ
  pub cuts : List ℕ
  pub places : ℕ

pub data Call : Type 0 where
  hand_in : HandIn → Call
  decide : Decide → Call
  -- port and reading
  clear : ℕ → ℕ → Call
  -- from and to
  bring : ℕ → ℕ → Call
  -- port and source
  fetch : ℕ → ℕ → Call
  release : ℕ → Call

-- 1 take, 2 leave
abbrev pub action_of : ℕ → Action
action_of n = cond (n == 1) Take Leave

-- the notice that is handed in, with the dispatcher's count
abbrev pub notice_of : HandIn → ℕ → Notice
notice_of x count = record { source = x.port; dispatcher = x.dispatcher; count = count; to = record { bits = x.to }; home = x.home; berth = x.berth; action = action_of x.action; vessel = x.vessel }

-- the same as the port keeps it: with his next count, and the clock that hand in gives
abbrev pub handed_of : PortView → HandIn → Handed
handed_of o x = record { notice = notice_of x (o.given x.dispatcher + 1); clock = clock_for (o.clock x.dispatcher) x.reading }

-- what a decide takes of the port's undecided notices, with the stamps that it gives
abbrev pub decision : PortView → Decide → List Decided
decision o x = stamped x.port o.floor (batch x.cuts o.undecided)
