use Rattle.std.proofs.Common.{get_or, Some, sym, refl, ap, ◌∙◌, subst}
use Rattle.records.specs.declared.fault.NetFault.TheVariants.{NoSuchPort, NothingWaits, Held}
use Rattle.model.specs.Calls.{release}
use Rattle.model.specs.Lists.{rest}
use Rattle.model.specs.Steps.{after_release}
use Rattle.ports.specs.Held.{Lowest}
use Rattle.ports.specs.Ports.{port_view}
use Rattle.nets.specs.Views.{ports_of, view}
use Rattle.nets.proofs.Keeping.{kept, kept_refused, stops, inside_table}
use Rattle.nets.proofs.Ports.{port_is, own_is, only_port, numbered_still}
use Rattle.nets.proofs.Releasing.{held_is, none_waits, is_held, is_free, released_so}
use Rattle.nets.proofs.net.Net.release.Goals as goal

pub returns-then-lacks : goal.returns-then-lacks
returns-then-lacks g c =
    let v = view g.W.Wire.line g.B.Board.shown c.args.self.now in
    record { kept = kept_refused v (release c.args.port) NoSuchPort (stops NoSuchPort _ _ (sym c.lacks.ensures ∙ c.if-lacks.true)); same = refl }

pub returns-in_default : goal.returns-in_default
returns-in_default g c =
    let n = c.args.self.now in
    let v = view g.W.Wire.line g.B.Board.shown n in
    let p = c.args.port in
    let there = sym c.lacks.ensures ∙ c.if-lacks.false in
    let lt = inside_table n.reach p there in
    let is = port_is n.ports p n.own lt c.index-self-at.result in
    record { kept = kept_refused v (release p) NothingWaits (none_waits v p there (ap (λ o. o.waiting) is ∙ c.in_default.ensures)); same = refl }

pub returns-then-holders-gt0 : goal.returns-then-holders-gt0
returns-then-holders-gt0 g c =
    let n = c.args.self.now in
    let v = view g.W.Wire.line g.B.Board.shown n in
    let p = c.args.port in
    let there = sym c.lacks.ensures ∙ c.if-lacks.false in
    let lt = inside_table n.reach p there in
    let x = c.in-Some.lowest in
    let low : Lowest (ports_of n.ports p).waiting (Some x) = subst (λ o. Lowest o.waiting (Some x)) (sym (port_is n.ports p n.own lt c.index-self-at.result)) c.in-Some.ensures in
    let d = c.index-self-at-2.result in
    let bits = c.holders-holders.ensures ∙ held_is n.reach p (get_or n.ports p d) (ports_of n.ports p) x (port_is n.ports p n.own lt d) (own_is n.ports p n.own lt d) low in
    record { kept = kept_refused v (release p) (Held c.holders-holders.result) (is_held v p there x c.holders-holders.result.bits low bits c.if-holders-gt0.true); same = refl }

pub invariant_of-self : goal.invariant_of-self
invariant_of-self g c =
    let n = c.args.self.now in
    let p = c.args.port in
    let lt = inside_table n.reach p (sym c.lacks.ensures ∙ c.if-lacks.false) in
    let d = c.index-self-at-3.result in
    let x = c.in-Some.lowest in
    let low : Lowest (port_view (get_or n.ports p d)).waiting (Some x) = subst (λ o. Lowest o.waiting (Some x)) (sym (port_is n.ports p n.own lt c.index-self-at.result) ∙ port_is n.ports p n.own lt d) c.in-Some.ensures in
    let b = released_so (get_or n.ports p d) c.release.new.self c.release.result x c.release.ensures low in
    record { own = numbered_still n.ports p n.own lt d c.release.new.self b.own }

pub returns : goal.returns
returns g c =
    let n = c.args.self.now in
    let v = view g.W.Wire.line g.B.Board.shown n in
    let p = c.args.port in
    let there = sym c.lacks.ensures ∙ c.if-lacks.false in
    let lt = inside_table n.reach p there in
    let x = c.in-Some.lowest in
    let low : Lowest (ports_of n.ports p).waiting (Some x) = subst (λ o. Lowest o.waiting (Some x)) (sym (port_is n.ports p n.own lt c.index-self-at.result)) c.in-Some.ensures in
    let d = c.index-self-at-2.result in
    let bits = c.holders-holders.ensures ∙ held_is n.reach p (get_or n.ports p d) (ports_of n.ports p) x (port_is n.ports p n.own lt d) (own_is n.ports p n.own lt d) low in
    let e = c.index-self-at-3.result in
    let b = released_so (get_or n.ports p e) c.release.new.self c.release.result x c.release.ensures (subst (λ o. Lowest o.waiting (Some x)) (port_is n.ports p n.own lt e) low) in
    record {
      kept = kept record {
        accepted = is_free v p there x c.holders-holders.result.bits low bits c.if-holders-gt0.false;
        lowest = (rest (ports_of n.ports p).waiting, low);
        outcome = c.apply-outcome.ensures.outcome;
        table = refl;
        ports = only_port n.ports p n.own lt e c.release.new.self (after_release x) b.view;
        lines = λ f t. refl;
        boards = c.apply-outcome.ensures.lists;
      };
      same = tt;
    }
