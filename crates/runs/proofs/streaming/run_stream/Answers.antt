use Rattle.std.proofs.Common.{ℕ, List, vec_items, ap, ◌∙◌, subst}
use Rattle.nets.specs.Views.{table_of, view}
use Rattle.runs.specs.Runs.{RanEvents}
use Rattle.runs.proofs.streaming.run_stream.Goals as goal

pub returns : goal.returns
returns g c =
    let r = c.run_events-end in
    let ran = λ (s : List ℕ) (p : ℕ). RanEvents g.W.Wire.depth g.B.Board.rule s p (vec_items r.new.answers) r.result (view g.W.Wire.line g.B.Board.shown r.new.net) in
    record {
      table = c.in-Ok.opened.table;
      behind = c.in-Ok.opened.behind;
      first = c.in-Ok.ensures;
      on_it = r.ensures.table ∙ ap table_of (c.open-net.ensures.table ∙ c.table.ensures);
      events = subst (ran c.args.stream.now) c.events-events.ensures.place (subst (λ s. ran s c.events-events.result.place) c.events-events.ensures.stream r.ensures.ran);
    }
