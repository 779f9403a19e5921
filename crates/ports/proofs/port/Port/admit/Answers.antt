use Rattle.std.proofs.Common.{◌≡◌, ℕ, Bool, true, false, not, Some, None, sym, refl, ap, ◌∙◌, subst, arith}
use Rattle.std.proofs.lemmas.List.{length-set}
use Rattle.std.proofs.lemmas.Bool.{not-true}
use Rattle.records.specs.declared.notice.Decided.{Decided}
use Rattle.records.specs.declared.notice.Record.{Record}
use Rattle.records.specs.declared.notice.Record.TheVariants.{Notice as Carries}
use Rattle.model.specs.Steps.{changed, joined}
use Rattle.ports.specs.Held.{waiting_of}
use Rattle.ports.specs.Ports.{misfits, port_view}
use Rattle.ports.specs.declared.port.Port.{Port}
use Rattle.ports.proofs.Views.{view_same, set_changed, fits_here, fits_room, admit_none, addressed_joined, admits_joined}
use Rattle.ports.proofs.port.Port.admit.Goals as goal

-- what the port takes does not misfit
taken : (p : Port) (source : ℕ) (x : Record) (r : Bool) → r ≡ not (misfits p.own source x (waiting_of p.waiting)) → r ≡ true → misfits p.own source x (waiting_of p.waiting) ≡ false
taken p source x r e t = not-true _ (sym e ∙ t)

noticed : (p : Port) (source : ℕ) (x : Record) (d : Decided) → x ≡ Carries d → misfits p.own source x (waiting_of p.waiting) ≡ false → misfits p.own source (Carries d) (waiting_of p.waiting) ≡ false
noticed p source x d is h = subst (λ y. misfits p.own source y (waiting_of p.waiting) ≡ false) is h

pub invariant_of-self : goal.invariant_of-self
invariant_of-self c =
    let p = c.args.self.now in
    let d = c.in-Notice.notice in
    let fits = noticed p c.args.source c.args.record d c.in-Notice.is (taken p c.args.source c.args.record c.takes.result c.takes.ensures c.if-not-takes.false) in
    let here = addressed_joined p.own d p.waiting c.add.new.self c.add.result c.add.ensures p.addressed (fits_here p.own c.args.source d (waiting_of p.waiting) fits) in
    record { port = p.port; four = p.four; sources = simp length-set p.sources; addressed = here }

pub returns-in-Notice : goal.returns-in-Notice
returns-in-Notice c =
    let p = c.args.self.now in
    let d = c.in-Notice.notice in
    let source = c.args.source in
    let none = taken p source c.args.record c.takes.result c.takes.ensures c.if-not-takes.false in
    let fits = noticed p source c.args.record d c.in-Notice.is none in
    admits_joined p _ source c.args.record d c.add.new.self c.add.result (fits_room p.own source d (waiting_of p.waiting) fits (omega arith)) c.add.ensures
    (λ e. (
      admit_none p source c.args.record (omega arith) none,
      record {
        own = refl;
        view = view_same _ _ refl refl refl refl refl refl
            (set_changed p.clearances source (Some c.pair_of.result) None (omega (arith, p.sources)) ∙ ap (λ x. changed source (Some x) (port_view p).clearance) c.pair_of.ensures)
            (e ∙ ap (λ x. joined x (waiting_of p.waiting)) (sym c.in-Notice.is));
      },
    ))
