use Rattle.std.proofs.Common.{rules}
use Rattle.boards.proofs.PlaceLaws.{all_empty}
use Rattle.boards.proofs.berths.Berths.new.Goals as goal

pub returns : goal.returns
returns g c = all_empty g.K.Berth.vessels c.from_fn.result (λ i d lt. let s = c.from_fn.ensures.items.at i d lt in let t = s.2 in search rules)
