use Rattle.std.proofs.Common.{◌≡◌, true, false, not, get_or, sym, refl, ap, ◌∙◌, subst}
use Rattle.std.proofs.lemmas.List.{get_or_default}
use Rattle.std.proofs.lemmas.Bool.{not-true, not-false}
use Rattle.records.specs.declared.fault.NetFault.TheVariants.{NoSuchPort}
use Rattle.model.specs.Steps.{after_fetch}
use Rattle.ports.specs.Ports.{port_view, misfits}
use Rattle.nets.specs.Views.{ports_of, view}
use Rattle.nets.proofs.Keeping.{kept_after, stops, any_of, first_inside, second_inside}
use Rattle.nets.proofs.Ports.{port_is, own_is, only_port, numbered_still, in_ports}
use Rattle.nets.proofs.Fetching.{looked, not_looked, taken_so, genuine, oldest_in, misfit_is, admit_ok, admitted, no_reach, none_arrived, full_up, has_room}
use Rattle.nets.proofs.net.Net.fetch.Goals as goal

pub returns-then-lacks : goal.returns-then-lacks
returns-then-lacks g c =
    let e = any_of c.lacks.ensures c.lacks-2.ensures c.if-lacks.true in
    record { kept = kept_after (λ h l. record { fault = stops NoSuchPort _ _ e; same = refl }); same = refl }

pub returns-then-not-sends : goal.returns-then-not-sends
returns-then-not-sends g c =
    let v = view g.W.Wire.line g.B.Board.shown c.args.self.now in
    let there = any_of c.lacks.ensures c.lacks-2.ensures c.if-lacks.false in
    let s = ap not (sym c.sends.ensures ∙ c.if-not-sends.true) in
    record { kept = kept_after (λ h l. record { fault = no_reach v c.args.port c.args.source there s; same = refl }); same = refl }

pub returns-in_default : goal.returns-in_default
returns-in_default g c =
    let v = view g.W.Wire.line g.B.Board.shown c.args.self.now in
    let there = any_of c.lacks.ensures c.lacks-2.ensures c.if-lacks.false in
    let s = ap not (sym c.sends.ensures ∙ c.if-not-sends.false) in
    record { kept = kept_after (λ h l. record { fault = none_arrived v c.args.port c.args.source there s (not_looked _ c.in_default.ensures); same = refl }); same = refl }

pub returns-then-not-takes : goal.returns-then-not-takes
returns-then-not-takes g c =
    let n = c.args.self.now in
    let line = g.W.Wire.line n.wire in
    let v = view g.W.Wire.line g.B.Board.shown n in
    let p = c.args.port in
    let f = c.args.source in
    let there = any_of c.lacks.ensures c.lacks-2.ensures c.if-lacks.false in
    let s = ap not (sym c.sends.ensures ∙ c.if-not-sends.false) in
    let lt = first_inside n.reach p f there in
    let d = c.index-self-at.result in
    let x = c.in-Some.record in
    let look = c.in-Some.ensures in
    let bad : misfits (get_or n.ports p d).own f x (port_view (get_or n.ports p d)).waiting ≡ true = not-false _ (sym c.takes.ensures ∙ c.if-not-takes.true) in
    let here : misfits p f x (ports_of n.ports p).waiting ≡ true = ap (λ k. misfits k f x (ports_of n.ports p).waiting) (sym (own_is n.ports p n.own lt d)) ∙ ap (λ o. misfits (get_or n.ports p d).own f x o.waiting) (port_is n.ports p n.own lt d) ∙ bad in
    record {
      kept = kept_after (λ h l. record { fault = full_up v p f there s x (looked (line f p) x look) true (sym (misfit_is p f x (ports_of n.ports p).waiting (genuine h v l f p x (oldest_in (line f p) x look))) ∙ here) refl; same = refl });
      same = refl;
    }

pub unwrap-requires : goal.unwrap-requires
unwrap-requires g c =
    let n = c.args.self.now in
    let p = c.args.port in
    let f = c.args.source in
    let there = any_of c.lacks.ensures c.lacks-2.ensures c.if-lacks.false in
    let lt = first_inside n.reach p f there in
    let d = c.index-self-at.result in
    let e = c.index-self-at-2.result in
    let same = get_or_default n.ports p d e (in_ports n.ports p n.own lt) in
    let ok : misfits (get_or n.ports p d).own f c.in-Some.record (port_view (get_or n.ports p d)).waiting ≡ false = not-true _ (sym c.takes.ensures ∙ c.if-not-takes.false) in
    admit_ok (get_or n.ports p e) c.admit.new.self f c.in-Some.record c.admit.result (second_inside n.reach p f there) (subst (λ x. misfits x.own f c.in-Some.record (port_view x).waiting ≡ false) same ok) c.admit.ensures

pub invariant_of-self : goal.invariant_of-self
invariant_of-self g c =
    let n = c.args.self.now in
    let p = c.args.port in
    let f = c.args.source in
    let there = any_of c.lacks.ensures c.lacks-2.ensures c.if-lacks.false in
    let lt = first_inside n.reach p f there in
    let d = c.index-self-at.result in
    let e = c.index-self-at-2.result in
    let same = get_or_default n.ports p d e (in_ports n.ports p n.own lt) in
    let ok : misfits (get_or n.ports p d).own f c.in-Some.record (port_view (get_or n.ports p d)).waiting ≡ false = not-true _ (sym c.takes.ensures ∙ c.if-not-takes.false) in
    let b = admitted (get_or n.ports p e) c.admit.new.self f c.in-Some.record c.admit.result (second_inside n.reach p f there) (subst (λ x. misfits x.own f c.in-Some.record (port_view x).waiting ≡ false) same ok) c.admit.ensures in
    record { own = numbered_still n.ports p n.own lt e c.admit.new.self b.own }

pub returns : goal.returns
returns g c =
    let n = c.args.self.now in
    let line = g.W.Wire.line n.wire in
    let v = view g.W.Wire.line g.B.Board.shown n in
    let p = c.args.port in
    let f = c.args.source in
    let there = any_of c.lacks.ensures c.lacks-2.ensures c.if-lacks.false in
    let s = ap not (sym c.sends.ensures ∙ c.if-not-sends.false) in
    let lt = first_inside n.reach p f there in
    let d = c.index-self-at.result in
    let e = c.index-self-at-2.result in
    let x = c.in-Some.record in
    let look = c.in-Some.ensures in
    let same = get_or_default n.ports p d e (in_ports n.ports p n.own lt) in
    let ok : misfits (get_or n.ports p d).own f x (port_view (get_or n.ports p d)).waiting ≡ false = not-true _ (sym c.takes.ensures ∙ c.if-not-takes.false) in
    let b = admitted (get_or n.ports p e) c.admit.new.self f x c.admit.result (second_inside n.reach p f there) (subst (λ y. misfits y.own f x (port_view y).waiting ≡ false) same ok) c.admit.ensures in
    let here : misfits p f x (ports_of n.ports p).waiting ≡ false = ap (λ k. misfits k f x (ports_of n.ports p).waiting) (sym (own_is n.ports p n.own lt d)) ∙ ap (λ o. misfits (get_or n.ports p d).own f x o.waiting) (port_is n.ports p n.own lt d) ∙ ok in
    record {
      kept = kept_after (λ h l. record {
        accepted = has_room v p f there s x (looked (line f p) x look) false (sym (misfit_is p f x (ports_of n.ports p).waiting (genuine h v l f p x (oldest_in (line f p) x look))) ∙ here) refl;
        got = x;
        arrived = looked (line f p) x look;
        table = refl;
        ports = only_port n.ports p n.own lt e c.admit.new.self (after_fetch f x) b.view;
        lines = taken_so line (g.W.Wire.line c.take.new.self) f p x c.take.result look c.take.ensures;
        boards = λ q home berth. refl;
      });
      same = tt;
    }
