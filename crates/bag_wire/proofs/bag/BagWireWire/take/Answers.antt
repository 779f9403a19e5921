use Rattle.std.proofs.Common.{sym, refl, subst}
use Rattle.wires.specs.Lines.{TakeAnswers}
use Rattle.bag_wire.specs.Bags.{bag_lines}
use Rattle.bag_wire.proofs.JournalLaws.{blank}
use Rattle.bag_wire.proofs.Edits.{look_late, take_ok, take_done}
use Rattle.bag_wire.proofs.bag.BagWireWire.take.Goals as goal

pub returns-in_err-record : goal.returns-in_err-record
returns-in_err-record c =
    let w = c.args.self.now in
    let late = look_late w.entries w.len w.ok c.args.ends.from c.args.ends.to c.in_ok-i.i c.in_ok-i.ensures blank c.in_err-record.ensures in
    subst (TakeAnswers (bag_lines w) (bag_lines w) c.args.ends.from c.args.ends.to) (sym c.from_residual-in_err-record.ensures) (record { none = late; same = λ p q. refl })

pub invariant_of-self : goal.invariant_of-self
invariant_of-self c =
    let w = c.args.self.now in
    record { ok = take_ok w.entries w.len w.ok c.args.ends.from c.args.ends.to c.in_ok-i.i c.in_ok-i.ensures blank c.move_behind.new.entries c.move_behind.ensures }

pub returns : goal.returns
returns c =
    let w = c.args.self.now in
    take_done w.entries w.len w.ok c.args.ends.from c.args.ends.to c.in_ok-i.i c.in_ok-i.ensures blank c.move_behind.new.entries c.move_behind.ensures c.in_ok-record.record c.in_ok-record.ensures
