use Rattle.std.proofs.Common.{◌≡◌, true, false, List, Some, None, sym, refl, ap, ◌∙◌}
use Rattle.records.specs.declared.fault.NetFault.TheVariants.{NoSuchPort, WorkingListShort, LineFull}
use Rattle.records.specs.declared.notice.Decided.{Decided}
use Rattle.model.specs.Batches.{copies_on}
use Rattle.model.specs.Calls.{decide, decision}
use Rattle.model.specs.Refusals.{room}
use Rattle.model.specs.Steps.{after_decide}
use Rattle.ports.specs.Ports.{deciding_fault}
use Rattle.nets.specs.Deciding.{deciding_call}
use Rattle.nets.specs.Views.{ports_of, view}
use Rattle.nets.proofs.Deciding.{too_short, port_refuses, no_room, can_decide, fault_is, decision_is, decided_so, decided_ok, sent_so}
use Rattle.nets.proofs.Keeping.{handed_on, kept, kept_refused, stops, inside_table}
use Rattle.nets.proofs.Ports.{only_port, numbered_still}
use Rattle.nets.proofs.net.Net.decide.Goals as goal

pub returns-then-lacks : goal.returns-then-lacks
returns-then-lacks g c =
    let v = view g.W.Wire.line g.B.Board.shown c.args.self.now in
    let x = deciding_call c.args.port c.args.number c.args.cuts c.args.working.now in
    record { kept = kept_refused v (decide x) NoSuchPort (stops NoSuchPort _ _ (sym c.lacks.ensures ∙ c.if-lacks.true)); same = (refl, refl) }

pub returns-then-working-lt16 : goal.returns-then-working-lt16
returns-then-working-lt16 g c =
    let v = view g.W.Wire.line g.B.Board.shown c.args.self.now in
    let x = deciding_call c.args.port c.args.number c.args.cuts c.args.working.now in
    let there = sym c.lacks.ensures ∙ c.if-lacks.false in
    record { kept = kept_refused v (decide x) WorkingListShort (too_short g.W.Wire.depth v x there c.if-working-lt16.true); same = (refl, refl) }

pub returns-in_err-batch-clause-kept : goal.returns-in_err-batch-clause-kept
returns-in_err-batch-clause-kept g c =
    let n = c.args.self.now in
    let v = view g.W.Wire.line g.B.Board.shown n in
    let x = deciding_call c.args.port c.args.number c.args.cuts c.args.working.now in
    let there = sym c.lacks.ensures ∙ c.if-lacks.false in
    let lt = inside_table n.reach c.args.port there in
    let f = c.in_err-batch.field-0.0 in
    let met : deciding_fault (ports_of n.ports c.args.port) x ≡ Some f = fault_is n.ports x n.own lt c.index-self-at.result ∙ c.in_err-batch.ensures in
    rw (handed_on {f = f} c.from_residual.result c.from_residual.ensures.1) (kept_refused v (decide x) f (port_refuses g.W.Wire.depth v x there c.if-working-lt16.false f met))

pub returns-then-not-has_room : goal.returns-then-not-has_room
returns-then-not-has_room g c =
    let n = c.args.self.now in
    let line = g.W.Wire.line n.wire in
    let depth = g.W.Wire.depth in
    let v = view g.W.Wire.line g.B.Board.shown n in
    let p = c.args.port in
    let x = deciding_call p c.args.number c.args.cuts c.args.working.now in
    let there = sym c.lacks.ensures ∙ c.if-lacks.false in
    let lt = inside_table n.reach p there in
    let plan = c.in_ok-batch.ensures in
    let d = c.index-self-at.result in
    let planned : deciding_fault (ports_of n.ports p) x ≡ None = fault_is n.ports x n.own lt d ∙ plan.accepted in
    let ds : decision (ports_of n.ports p) x ≡ c.list-notices.result.now = decision_is n.ports x n.own lt d ∙ sym (c.list-notices.ensures ∙ plan.notices) in
    let full : room depth line p (copies_on p (decision (ports_of n.ports p) x)) ≡ false = ap (λ xs. room depth line p (copies_on p xs)) ds ∙ sym c.has_room.ensures ∙ c.if-not-has_room.true in
    record { kept = kept_refused v (decide x) LineFull (no_room depth v x there c.if-working-lt16.false planned full); same = (refl, refl) }

pub unwrap-requires-2 : goal.unwrap-requires-2
unwrap-requires-2 g c =
    let n = c.args.self.now in
    let p = c.args.port in
    let x = deciding_call p c.args.number c.args.cuts c.args.working.now in
    let lt = inside_table n.reach p (sym c.lacks.ensures ∙ c.if-lacks.false) in
    let planned : deciding_fault (ports_of n.ports p) x ≡ None = fault_is n.ports x n.own lt c.index-self-at.result ∙ c.in_ok-batch.ensures.accepted in
    decided_ok n.ports x n.own lt c.index-self-at-2.result c.decide.new.self c.decide.result planned c.decide.ensures

pub invariant_of-self-2 : goal.invariant_of-self-2
invariant_of-self-2 g c =
    let n = c.args.self.now in
    let p = c.args.port in
    let x = deciding_call p c.args.number c.args.cuts c.args.working.now in
    let lt = inside_table n.reach p (sym c.lacks.ensures ∙ c.if-lacks.false) in
    let e = c.index-self-at-2.result in
    let planned : deciding_fault (ports_of n.ports p) x ≡ None = fault_is n.ports x n.own lt c.index-self-at.result ∙ c.in_ok-batch.ensures.accepted in
    let b = decided_so n.ports x n.own lt e c.decide.new.self c.decide.result planned c.decide.ensures in
    record { own = numbered_still n.ports p n.own lt e c.decide.new.self b.own }

pub returns : goal.returns
returns g c =
    let n = c.args.self.now in
    let line = g.W.Wire.line in
    let depth = g.W.Wire.depth in
    let v = view line g.B.Board.shown n in
    let p = c.args.port in
    let x = deciding_call p c.args.number c.args.cuts c.args.working.now in
    let there = sym c.lacks.ensures ∙ c.if-lacks.false in
    let lt = inside_table n.reach p there in
    let plan = c.in_ok-batch.ensures in
    let d = c.index-self-at.result in
    let e = c.index-self-at-2.result in
    let planned : deciding_fault (ports_of n.ports p) x ≡ None = fault_is n.ports x n.own lt d ∙ plan.accepted in
    let xs : List Decided = c.list-notices.result.now in
    let ds : decision (ports_of n.ports p) x ≡ xs = decision_is n.ports x n.own lt d ∙ sym (c.list-notices.ensures ∙ plan.notices) in
    let room_for : room depth (line n.wire) p (copies_on p xs) ≡ true = sym c.has_room.ensures ∙ c.if-not-has_room.false in
    let b = decided_so n.ports x n.own lt e c.decide.new.self c.decide.result planned c.decide.ensures in
    record {
      kept = (
        xs,
        kept record {
          accepted = can_decide depth v x there c.if-working-lt16.false planned (ap (λ ys. room depth (line n.wire) p (copies_on p ys)) ds ∙ room_for);
          batch = sym ds;
          counted = refl;
          sent = c.copies.ensures;
          table = refl;
          ports = only_port n.ports p n.own lt e c.decide.new.self (after_decide x) b.view;
          lines = sent_so line depth n.wire c.send_batch.new.wire p (copies_on p xs) c.send_batch.result room_for c.send_batch.ensures;
          boards = λ q home berth. refl;
        },
        c.copy_into.ensures,
      );
      same = tt;
    }
