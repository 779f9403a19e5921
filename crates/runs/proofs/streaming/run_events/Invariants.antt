use Rattle.std.proofs.Common.{◌≡◌, ◌-◌, length, vec_items}
use Rattle.nets.specs.Views.{view}
use Rattle.runs.specs.Runs.{Went}
use Rattle.runs.proofs.streaming.run_events.Given as goal

-- the fields up to the reader's place were run
abbrev pub invariant-fields : goal.invariant-fields
invariant-fields g l =
    (l.events.stream.now ≡ l.initial.events.stream.now)
    × ((view g.W.Wire.line g.B.Board.shown l.net).table ≡ (view g.W.Wire.line g.B.Board.shown l.initial.net).table)
    × Went g.W.Wire.depth g.B.Board.rule l.initial.events.stream.now l.initial.events.place (vec_items l.answers) l.events.place (view g.W.Wire.line g.B.Board.shown l.net)

abbrev pub decreases-fields : goal.decreases-fields
decreases-fields g l = length l.initial.events.stream.now - l.events.place
