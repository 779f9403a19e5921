use Rattle.std.proofs.Common.{refl}
use Rattle.model.specs.Histories.{opened}
use Rattle.nets.proofs.Opening.{reaches, all_fresh}
use Rattle.nets.proofs.net.Net.open.Goals as goal

pub returns : goal.returns
returns g c = record {
  table = refl;
  lives = opened record {
    table = reaches c.args.reach;
    ports = all_fresh c.new.result c.new-2.result c.new-3.result c.new-4.result c.new-5.result c.new-6.result c.new-7.result c.new-8.result c.new.ensures.view c.new-2.ensures.view c.new-3.ensures.view c.new-4.ensures.view c.new-5.ensures.view c.new-6.ensures.view c.new-7.ensures.view c.new-8.ensures.view;
    lines = c.empty.ensures;
    boards = c.empty-2.ensures;
  };
}
