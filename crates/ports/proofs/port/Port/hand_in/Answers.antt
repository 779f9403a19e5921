use Rattle.std.proofs.Common.{◌≡◌, ◌+◌, ◌<◌, max, length, get_or, sym, refl, ap, ◌∙◌, arith}
use Rattle.ordered.specs.Orders.{placed}
use Rattle.records.specs.Keys.{handed_before}
use Rattle.model.specs.Steps.{changed}
use Rattle.ports.specs.Held.{undecided_of}
use Rattle.ports.specs.Ports.{port_view}
use Rattle.ports.proofs.Dispatchers.{number_at, number_changed, number_same}
use Rattle.ports.proofs.Handing.{handing_none, added, made, made_is}
use Rattle.ports.proofs.Views.{view_same}
use Rattle.ports.proofs.port.Port.hand_in.Goals as goal

pub returns : goal.returns
returns c =
    let p = c.args.self.now in
    let d = c.args.dispatcher in
    let him = c.index-self-at.result in
    let said = c.args.content in
    let few : length (undecided_of p.undecided) < 16 = omega (arith, ap length c.list.ensures.all) in
    let low : d < 4 = omega arith in
    let is : him ≡ get_or p.dispatchers d him = c.index-self-at.is in
    let given : (port_view p).given d ≡ him.given = number_at (λ x. x.given) p.dispatchers p.four d him low is in
    let last : (port_view p).clock d ≡ him.clock = number_at (λ x. x.clock) p.dispatchers p.four d him low is in
    let count = c.in-Some.count in
    let clock = c.clock_for-clock.result in
    let now = c.handing.ensures in
    let next : count ≡ (port_view p).given d + 1 = omega (arith, given, c.given.ensures, ap (λ x. x.given) is, c.in-Some.ensures.1) in
    let ticks : clock ≡ max ((port_view p).clock d) c.args.reading = c.clock_for-clock.ensures ∙ ap (λ n. max n c.args.reading) (c.clock.ensures ∙ ap (λ x. x.clock) (sym is) ∙ sym last) in
    let x = made p d count clock said.to said.home said.berth said.action said.vessel in
    let same = made_is p d c.args.reading count clock said.to said.home said.berth said.action said.vessel next ticks in (
      handing_none (port_view p) d (omega arith) (omega (arith, given, c.given.ensures, ap (λ x. x.given) is, c.in-Some.ensures.0)) few,
      next,
      record {
        own = refl;
        view = view_same _ _
            (added x p.undecided c.add.new.self c.add.result few c.add.ensures ∙ ap (λ y. placed handed_before y (undecided_of p.undecided)) same)
            (number_changed (λ x. x.given) p.dispatchers p.four d c.handing.result low ∙ ap (λ n. changed d n (port_view p).given) (now.0 ∙ next))
            (number_same (λ x. x.settled) p.dispatchers p.four d c.handing.result him now.1)
            (number_changed (λ x. x.clock) p.dispatchers p.four d c.handing.result low ∙ ap (λ n. changed d n (port_view p).clock) (now.2 ∙ ticks))
            refl refl refl refl;
      },
    )
