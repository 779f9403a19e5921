use Rattle.std.proofs.Common.{ℕ, Bool, ◌&&◌, sym, refl, ap, ◌∙◌, arith, rules}
use borrow.Author.Tests.{tests}
use Rattle.std.proofs.lemmas.Bool.{lt-ltb}
use Rattle.std.proofs.lemmas.Iterator.{YieldsList-from_range}
use Rattle.std.proofs.lemmas.Iterator.Search.{all_from_yields_List}
use Rattle.model.specs.Lists.{every}
use Rattle.model.proofs.Every.{every_range}
use Rattle.nets.specs.Handing.{addressed}
use Rattle.nets.specs.Views.{table_of}
use Rattle.nets.proofs.net.Net.in_reach.Goals as goal

pub returns : goal.returns
returns g c =
    let test : ℕ → Bool = addressed (table_of c.args.self.now.reach) c.args.port c.args.mask.bits in
    all_from_yields_List test c.all.new.self _ c.all.result c.all.ensures.ran (YieldsList-from_range 0 8 8 refl (omega arith)) (λ x b q k. search (rules, tests))
    ∙ every_range 8 test
    ∙ sym (ap (λ b. b && every 8 test) (lt-ltb c.args.mask.bits 256 (omega arith)))
