use Rattle.std.proofs.Common.{not, eqb, get_or, sym, refl, ap, ◌∙◌, subst}
use Rattle.records.specs.declared.fault.NetFault.TheVariants.{NoSuchPort, NoSuchDispatcher, WrongContent, WrongDestinations}
use Rattle.model.specs.Calls.{hand_in}
use Rattle.model.specs.Histories.{refused}
use Rattle.model.specs.Refusals.{in_reach}
use Rattle.ports.specs.Ports.{handing_in, HandsIn}
use Rattle.nets.specs.Handing.{hand_in_call}
use Rattle.nets.specs.Promises.{Kept}
use Rattle.nets.specs.Views.{table_of, view}
use Rattle.nets.proofs.Handing.{same_call, wrong_dispatcher, wrong_content_lem, wrong_destinations, up_to_port, still_own, hands_in, stays}
use Rattle.nets.proofs.Keeping.{handed_on, kept_refused, stops, any_of, inside_table}
use Rattle.nets.proofs.Ports.{own_is, numbered_still}
use Rattle.nets.proofs.net.Net.hand_in.Goals as goal

pub returns-then-lacks : goal.returns-then-lacks
returns-then-lacks g c =
    let v = view g.W.Wire.line g.B.Board.shown c.args.self.now in
    let x = hand_in_call c.args.said in
    record { kept = kept_refused v (hand_in x) NoSuchPort (stops NoSuchPort _ _ (sym c.lacks.ensures ∙ c.if-lacks.true)); same = record { reach = refl; ports = refl; wire = refl; board = refl } }

pub returns-then-beyond_four : goal.returns-then-beyond_four
returns-then-beyond_four g c =
    let v = view g.W.Wire.line g.B.Board.shown c.args.self.now in
    let x = hand_in_call c.args.said in
    record { kept = kept_refused v (hand_in x) NoSuchDispatcher (wrong_dispatcher v x (sym c.lacks.ensures ∙ c.if-lacks.false) (sym c.beyond_four.ensures ∙ c.if-beyond_four.true)); same = record { reach = refl; ports = refl; wire = refl; board = refl } }

pub returns-in_err-content-clause-kept : goal.returns-in_err-content-clause-kept
returns-in_err-content-clause-kept g c =
    let v = view g.W.Wire.line g.B.Board.shown c.args.self.now in
    let x = hand_in_call c.args.said in
    let wrong = c.in_err-content.ensures in
    rw (handed_on c.from_residual.result c.from_residual.ensures.1)
    (subst (λ f. Kept g.W.Wire.depth g.B.Board.rule v (refused (hand_in x) f) v) (sym wrong.0) (kept_refused v (hand_in x) WrongContent (wrong_content_lem v x (sym c.lacks.ensures ∙ c.if-lacks.false) (sym c.beyond_four.ensures ∙ c.if-beyond_four.false) wrong.1)))

pub returns-then-is_empty-in_reach : goal.returns-then-is_empty-in_reach
returns-then-is_empty-in_reach g c =
    let v = view g.W.Wire.line g.B.Board.shown c.args.self.now in
    let x = hand_in_call c.args.said in
    let fit = c.in_ok-content.ensures in
    let astray = any_of {x = eqb c.args.said.mask 0} (c.is_empty.ensures ∙ ap (λ y. eqb y.to.bits 0) fit.1) (ap not (c.in_reach.ensures ∙ ap (λ y. in_reach (table_of c.args.self.now.reach) c.args.said.port y.to.bits) fit.1)) c.if-is_empty-in_reach.true in
    record {
      kept = kept_refused v (hand_in x) WrongDestinations (wrong_destinations v x (sym c.lacks.ensures ∙ c.if-lacks.false) (sym c.beyond_four.ensures ∙ c.if-beyond_four.false) fit.0 astray);
      same = record { reach = refl; ports = refl; wire = refl; board = refl };
    }

pub invariant_of-self : goal.invariant_of-self
invariant_of-self g c =
    let n = c.args.self.now in
    let p = c.args.said.port in
    let d = c.index-ports-at.result in
    let lt = inside_table n.reach p (sym c.lacks.ensures ∙ c.if-lacks.false) in
    record { own = numbered_still n.ports p n.own lt d c.hand_in.new.self (still_own (get_or n.ports p d) c.hand_in.new.self _ c.hand_in.result c.hand_in.ensures) }

pub returns : goal.returns
returns g c =
    let n = c.args.self.now in
    let line = g.W.Wire.line in
    let shown = g.B.Board.shown in
    let v = view line shown n in
    let said = c.args.said in
    let p = said.port in
    let x = hand_in_call said in
    let d = c.index-ports-at.result in
    let old = get_or n.ports p d in
    let new = c.hand_in.new.self in
    let there = sym c.lacks.ensures ∙ c.if-lacks.false in
    let lt = inside_table n.reach p there in
    let fit = c.in_ok-content.ensures in
    let near = any_of {x = eqb said.mask 0} (c.is_empty.ensures ∙ ap (λ y. eqb y.to.bits 0) fit.1) (ap not (c.in_reach.ensures ∙ ap (λ y. in_reach (table_of n.reach) p y.to.bits) fit.1)) c.if-is_empty-in_reach.false in
    let call = ap (λ y. handing_in old said.dispatcher said.reading y.to y.home y.berth y.action y.vessel) fit.1 ∙ same_call v.table old said (own_is n.ports p n.own lt d) fit.0 in
    let did : HandsIn old new x c.hand_in.result = subst (λ y. HandsIn old new y c.hand_in.result) call c.hand_in.ensures in
    record {
      kept = hands_in line shown n x lt d new g.W.Wire.depth g.B.Board.rule c.hand_in.result (up_to_port v x there (sym c.beyond_four.ensures ∙ c.if-beyond_four.false) fit.0 near) did;
      same = stays line shown n x lt d new c.hand_in.result did _ refl refl refl refl;
    }
