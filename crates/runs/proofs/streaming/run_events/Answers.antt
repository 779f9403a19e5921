use Rattle.std.proofs.Common.{ℕ, Bool, List, Ok, Err, vec_items, sym, refl, ap, ◌∙◌, subst, arith}
use Rattle.nets.specs.Views.{view}
use Rattle.runs.specs.Runs.{Ends, TurnAnswers, Turned}
use Rattle.runs.proofs.Going.{went_none, went_on, table_on, ended}
use Rattle.nets.proofs.Keeping.{handed_on}
use Rattle.runs.proofs.streaming.run_events.Given as given
use Rattle.runs.proofs.streaming.run_events.Goals as goal

pub fields-init : goal.fields-init
fields-init g c = (refl, refl, went_none c.requires.1 c.requires.0)

pub returns-in_err-run_next : goal.returns-in_err-run_next
returns-in_err-run_next g c =
    let seen = view g.W.Wire.line g.B.Board.shown in
    let s = c.args.events.now.stream.now in
    let p = c.fields.events.place in
    let f = c.in_err-run_next.field-0.0 in
    let e = handed_on {f = f} c.from_residual.result c.from_residual.ensures.1 in
    let turn = subst (λ x. TurnAnswers g.W.Wire.depth g.B.Board.rule x p (vec_items c.fields.answers) (seen c.fields.net) c.run_next.new.events.place (vec_items c.run_next.new.answers) (seen c.run_next.new.net) (Err f)) c.fields.invariant.0 c.in_err-run_next.ensures.turn in
    record {
      table = ap (λ v. v.table) turn.2 ∙ c.fields.invariant.1;
      ran = ended c.fields.invariant.2 (subst (Ends s p) (sym e) turn.0) turn.1 turn.2;
    }

pub returns-then-not-branch : goal.returns-then-not-branch
returns-then-not-branch g c =
    let seen = view g.W.Wire.line g.B.Board.shown in
    let p = c.fields.events.place in
    let answered = λ (x : List ℕ) (b : Bool). TurnAnswers g.W.Wire.depth g.B.Board.rule x p (vec_items c.fields.answers) (seen c.fields.net) c.run_next.new.events.place (vec_items c.run_next.new.answers) (seen c.run_next.new.net) (Ok b) in
    let turn = subst (answered c.args.events.now.stream.now) c.if-not-branch.true (subst (λ x. answered x c.in_ok-run_next.field-0) c.fields.invariant.0 c.in_ok-run_next.ensures.turn) in
    record {
      table = ap (λ v. v.table) turn.2 ∙ c.fields.invariant.1;
      ran = ended c.fields.invariant.2 turn.0 turn.1 turn.2;
    }

turned : (g : given.Over) (c : goal.Else-not-branch g) → Turned g.W.Wire.depth g.B.Board.rule c.args.events.now.stream.now c.fields.events.place (vec_items c.fields.answers) (view g.W.Wire.line g.B.Board.shown c.fields.net) c.run_next.new.events.place (vec_items c.run_next.new.answers) (view g.W.Wire.line g.B.Board.shown c.run_next.new.net)
turned g c =
    let seen = view g.W.Wire.line g.B.Board.shown in
    let answered = λ (x : List ℕ) (b : Bool). TurnAnswers g.W.Wire.depth g.B.Board.rule x c.fields.events.place (vec_items c.fields.answers) (seen c.fields.net) c.run_next.new.events.place (vec_items c.run_next.new.answers) (seen c.run_next.new.net) (Ok b) in
    subst (answered c.args.events.now.stream.now) c.if-not-branch.false (subst (λ x. answered x c.in_ok-run_next.field-0) c.fields.invariant.0 c.in_ok-run_next.ensures.turn)

pub fields-smaller : goal.fields-smaller
fields-smaller g c = let t = turned g c in omega (arith, t.onward, t.within)

pub fields-preserved : goal.fields-preserved
fields-preserved g c =
    let t = turned g c in
    (c.run_next.ensures.stream ∙ c.fields.invariant.0, table_on c.fields.invariant.2 t ∙ c.fields.invariant.1, went_on c.fields.invariant.2 t)
