use Rattle.std.proofs.Common.{not, sym, refl, ap, ◌∙◌}
use Rattle.records.specs.declared.fault.NetFault.TheVariants.{NoSuchPort, OutOfReach}
use Rattle.model.specs.Calls.{bring}
use Rattle.nets.specs.Views.{table_of, view}
use Rattle.nets.proofs.Keeping.{kept, kept_refused, stops, passes, any_of}
use Rattle.nets.proofs.net.Net.bring.Goals as goal

pub returns-then-lacks : goal.returns-then-lacks
returns-then-lacks g c =
    let n = c.args.self.now in
    let t = table_of n.reach in
    let e = any_of c.lacks.ensures c.lacks-2.ensures c.if-lacks.true in
    record { kept = kept_refused (view g.W.Wire.line g.B.Board.shown n) (bring c.args.from c.args.to) NoSuchPort (stops NoSuchPort _ _ e); same = refl }

pub returns-then-not-sends : goal.returns-then-not-sends
returns-then-not-sends g c =
    let n = c.args.self.now in
    let e = any_of c.lacks.ensures c.lacks-2.ensures c.if-lacks.false in
    let s = ap not (sym c.sends.ensures ∙ c.if-not-sends.true) in
    record { kept = kept_refused (view g.W.Wire.line g.B.Board.shown n) (bring c.args.from c.args.to) OutOfReach (passes NoSuchPort _ _ e ∙ stops OutOfReach _ _ s); same = refl }

pub returns : goal.returns
returns g c =
    let e = any_of c.lacks.ensures c.lacks-2.ensures c.if-lacks.false in
    let s = ap not (sym c.sends.ensures ∙ c.if-not-sends.false) in
    record { kept = kept record { accepted = passes NoSuchPort _ _ e ∙ passes OutOfReach _ _ s; table = refl; ports = λ q. refl; lines = c.bring.ensures; boards = λ p home berth. refl }; same = tt }
