use Rattle.std.proofs.Common.{◌≡◌, true, false, sym, refl, ap, ◌∙◌, subst}
use Rattle.records.specs.declared.fault.NetFault.TheVariants.{NoSuchPort, StepUsedUp, LineFull}
use Rattle.records.specs.declared.notice.Record.TheVariants.{Empty}
use Rattle.wires.specs.Growths.{Grown, to_each}
use Rattle.model.specs.Calls.{clear}
use Rattle.model.specs.Histories.{refused}
use Rattle.model.specs.Refusals.{clearance_on, clearance_stamp, room}
use Rattle.model.specs.Stamping.{next_pair, step_fits}
use Rattle.model.specs.Steps.{after_clear}
use Rattle.nets.specs.Promises.{Kept}
use Rattle.nets.specs.Views.{table_of, ports_of, view}
use Rattle.nets.proofs.Clearing.{step_used, no_room, can_clear, on_lines}
use Rattle.nets.proofs.Keeping.{handed_on, kept, kept_refused, stops, inside_table}
use Rattle.nets.proofs.Ports.{port_is, only_port, numbered_still}
use Rattle.nets.proofs.net.Net.clear.Goals as goal

pub returns-then-lacks : goal.returns-then-lacks
returns-then-lacks g c =
    let v = view g.W.Wire.line g.B.Board.shown c.args.self.now in
    record { kept = kept_refused v (clear c.args.port c.args.reading) NoSuchPort (stops NoSuchPort _ _ (sym c.lacks.ensures ∙ c.if-lacks.true)); same = record { reach = refl; ports = refl; wire = refl; board = refl } }

pub returns-in_err-pair-clause-kept : goal.returns-in_err-pair-clause-kept
returns-in_err-pair-clause-kept g c =
    let n = c.args.self.now in
    let v = view g.W.Wire.line g.B.Board.shown n in
    let p = c.args.port in
    let there = sym c.lacks.ensures ∙ c.if-lacks.false in
    let lt = inside_table n.reach p there in
    let is = port_is n.ports p n.own lt c.index-self-at.result in
    let used = ap (λ o. step_fits (next_pair o.floor c.args.reading)) is ∙ c.in_err-pair.ensures.1 in
    rw (handed_on c.from_residual.result c.from_residual.ensures.1)
    (subst (λ f. Kept g.W.Wire.depth g.B.Board.rule v (refused (clear p c.args.reading) f) v) (sym c.in_err-pair.ensures.0) (kept_refused v (clear p c.args.reading) StepUsedUp (step_used g.W.Wire.depth v p c.args.reading there used)))

pub returns-in_err-send_clearance-clause-kept : goal.returns-in_err-send_clearance-clause-kept
returns-in_err-send_clearance-clause-kept g c =
    let n = c.args.self.now in
    let line = g.W.Wire.line in
    let shown = g.B.Board.shown in
    let depth = g.W.Wire.depth in
    let v = view line shown n in
    let p = c.args.port in
    let r = c.args.reading in
    let there = sym c.lacks.ensures ∙ c.if-lacks.false in
    let lt = inside_table n.reach p there in
    let is = port_is n.ports p n.own lt c.index-self-at.result in
    let pair : c.in_ok-pair.pair ≡ next_pair (v.port p).floor r = c.in_ok-pair.ensures.0 ∙ ap (λ o. next_pair o.floor r) (sym is) in
    let fits : step_fits (next_pair (v.port p).floor r) ≡ true = ap step_fits (sym pair) ∙ c.in_ok-pair.ensures.1 in
    let full : room depth (line n.wire) p (clearance_on (table_of n.reach) (clearance_stamp v p r)) ≡ false = on_lines depth (line n.wire) n.reach p c.mask-mask.result c.in_ok-pair.pair (next_pair (v.port p).floor r) c.mask-mask.ensures pair ∙ c.in_err-send_clearance.ensures.1.full in
    let same = c.in_err-send_clearance.ensures.1.same in
    rw (handed_on c.from_residual-in_err-send_clearance.result c.from_residual-in_err-send_clearance.ensures.1)
    (subst (λ w. Kept depth g.B.Board.rule v (refused (clear p r) c.in_err-send_clearance.field-0.0) (record { table = table_of n.reach; port = ports_of n.ports; line = line w; shown = shown n.board })) (sym same)
    (subst (λ f. Kept depth g.B.Board.rule v (refused (clear p r) f) v) (sym c.in_err-send_clearance.ensures.0) (kept_refused v (clear p r) LineFull (no_room depth v p r there fits full))))

pub invariant_of-self-2 : goal.invariant_of-self-2
invariant_of-self-2 g c =
    let n = c.args.self.now in
    let p = c.args.port in
    let lt = inside_table n.reach p (sym c.lacks.ensures ∙ c.if-lacks.false) in
    record { own = numbered_still n.ports p n.own lt c.index-self-at-2.result c.clear.new.self c.clear.ensures.own }

pub returns : goal.returns
returns g c =
    let n = c.args.self.now in
    let line = g.W.Wire.line in
    let shown = g.B.Board.shown in
    let depth = g.W.Wire.depth in
    let v = view line shown n in
    let p = c.args.port in
    let r = c.args.reading in
    let there = sym c.lacks.ensures ∙ c.if-lacks.false in
    let lt = inside_table n.reach p there in
    let is = port_is n.ports p n.own lt c.index-self-at.result in
    let pair : c.in_ok-pair.pair ≡ next_pair (v.port p).floor r = c.in_ok-pair.ensures.0 ∙ ap (λ o. next_pair o.floor r) (sym is) in
    let fits : step_fits (next_pair (v.port p).floor r) ≡ true = ap step_fits (sym pair) ∙ c.in_ok-pair.ensures.1 in
    let free : room depth (line n.wire) p (clearance_on (table_of n.reach) (clearance_stamp v p r)) ≡ true = on_lines depth (line n.wire) n.reach p c.mask-mask.result c.in_ok-pair.pair (next_pair (v.port p).floor r) c.mask-mask.ensures pair ∙ c.in_ok-send_clearance.ensures.fits in
    record {
      kept = kept record {
        accepted = can_clear depth v p r there fits free;
        pair = pair;
        table = refl;
        ports = only_port n.ports p n.own lt c.index-self-at-2.result c.clear.new.self (after_clear c.in_ok-pair.pair) c.clear.ensures.view;
        lines = subst (λ m. Grown (line n.wire) (line c.send_clearance.new.wire) (to_each p m.bits (Empty (record { pair = c.in_ok-pair.pair; port = p })))) c.mask-mask.ensures c.in_ok-send_clearance.ensures.lines;
        boards = λ q home berth. refl;
      };
      same = tt;
    }
