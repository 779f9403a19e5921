-- The edges of the rules, each with its numbers. Assumes nothing.
use Rattle.std.specs.Prelude.{◌≡◌, ℕ, ◌<◌, true, false, List, [], ◌∷◌, Some}
use Rattle.records.specs.Keys.{stamp_before}
use Rattle.records.specs.Numbers.{net_number}
use Rattle.records.specs.declared.fault.NetFault.TheVariants.{StepUsedUp}
use Rattle.records.specs.declared.stamp.Pair.{Pair}
use Rattle.records.specs.declared.stamp.Stamp.{Stamp}
use Rattle.records.specs.declared.notice.Action.TheVariants.{Leave}
use Rattle.records.specs.declared.notice.Handed.{Handed}
use Rattle.boards.specs.declared.outcome.Outcome.TheVariants.{Gone}
use Rattle.boards.specs.Kinds.{queue}
use Rattle.model.specs.Stamping.{next_pair, stamped, stampable}
use Rattle.model.specs.Views.{PortView, View}
use Rattle.model.specs.Holding.{holds}
use Rattle.model.specs.Calls.{HandIn, handed_of}
use Rattle.model.specs.Refusals.{clear_fault}
use Rattle.model.specs.Steps.{after_hand_in}

abbrev pub pair : ℕ → ℕ → Pair
pair clock step = record { clock = clock; step = step }

abbrev pub stamp : ℕ → ℕ → ℕ → Stamp
stamp clock step port = record { pair = pair clock step; port = port }

pub record Edges : Type 0 where
  -- a later clock begins at step 0
  pub later : next_pair (Some (pair 99 7)) 100 ≡ pair 100 0
  -- the floor's own clock goes one step up
  pub same : next_pair (Some (pair 100 0)) 100 ≡ pair 100 1
  -- and so does an earlier one
  pub earlier : next_pair (Some (pair 100 1)) 90 ≡ pair 100 2
  -- the last step of a second: its clock meets 13, in clear and in decide
  pub used_up : (depth : ℕ) (v : View) (p : ℕ) → p < v.table.ports → (v.port p).floor ≡ Some (pair 100 65535) → clear_fault depth v p 100 ≡ Some StepUsedUp
  pub none_fits : (p : ℕ) (n : Handed) (ns : List Handed) → n.clock ≡ 100 → stampable (stamped p (Some (pair 100 65535)) (n ∷ ns)) ≡ false
  pub number : net_number StepUsedUp ≡ 13
  -- the next second begins anew
  pub anew : next_pair (Some (pair 100 65535)) 101 ≡ pair 101 0
  -- the pair goes before the port
  pub stamps : stamp_before (stamp 100 0 7) (stamp 100 1 0) ≡ true
  -- a lower clearance holds, an equal one does not
  pub held : holds (Some (pair 100 0)) (pair 100 1) ≡ true
  pub not_held : holds (Some (pair 100 1)) (pair 100 1) ≡ false
  -- on the queue board, of 7 and then 9, 7 leaves
  pub seven_leaves : queue (7 ∷ 9 ∷ []) Leave 7 ≡ record { list = 9 ∷ []; outcome = Gone }
  -- one dispatcher's readings 50, then 40
  pub clocks : (o : PortView) (x y : HandIn) → o.clock x.dispatcher ≡ 0 → y.dispatcher ≡ x.dispatcher
      → x.reading ≡ 50 → y.reading ≡ 40
      → ((handed_of o x).clock ≡ 50) × ((handed_of (after_hand_in x o) y).clock ≡ 50)
