use Rattle.bag_wire.proofs.Edits.{bring_ok, bring_done, bring_all}
use Rattle.bag_wire.proofs.bag.BagWireWire.bring.Goals as goal

pub invariant_of-self : goal.invariant_of-self
invariant_of-self c = let w = c.args.self.now in record { ok = bring_ok w.entries w.len w.ok c.args.ends.from c.args.ends.to c.mark.new.entries c.mark.ensures }

pub returns : goal.returns
returns c =
    let w = c.args.self.now in
    record {
      does = bring_done w.entries w.len w.ok c.args.ends.from c.args.ends.to c.mark.new.entries c.mark.ensures;
      all = bring_all w.entries w.len w.ok c.args.ends.from c.args.ends.to c.mark.new.entries c.mark.ensures;
    }
