use Rattle.ports.proofs.Crowds.{known_after, crowds_after}
use Rattle.ports.proofs.waiting.Waiting.take_lowest.Goals as goal

pub invariant_of-self : goal.invariant_of-self
invariant_of-self c =
    let w = c.args.self.now in
    let after = c.take_first.new.self in
    record {
      known = known_after w.notices after c.take_first.result c.take_first.ensures w.known;
      crowds = crowds_after w.notices after c.take_first.result c.take_first.ensures w.crowds;
    }
