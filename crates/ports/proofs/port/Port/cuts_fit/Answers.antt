use Rattle.std.proofs.Common.{ℕ, Bool, ◌&&◌, leb, ◌∙◌, rules}
use borrow.Author.Tests.{tests}
use Rattle.std.proofs.lemmas.Iterator.{YieldsList-from_slice, YieldsList-from_zip}
use Rattle.std.proofs.lemmas.Iterator.Search.{all_from_yields_List}
use Rattle.ports.specs.declared.dispatcher.Dispatcher.{Dispatcher}
use Rattle.ports.proofs.Dispatchers.{fits_each}
use Rattle.ports.proofs.port.Port.cuts_fit.Goals as goal

pub returns : goal.returns
returns c =
    let p = c.args.self.now in
    let cuts = c.args.cuts.now in
    let test : Dispatcher × ℕ → Bool = λ x. leb x.0.settled x.1 && leb x.1 x.0.given in
    all_from_yields_List test c.all.new.self _ c.all.result c.all.ensures.ran (YieldsList-from_zip (YieldsList-from_slice p.dispatchers (cc)) (YieldsList-from_slice cuts (cc))) (λ x b q k. search (rules, tests))
    ∙ fits_each p.dispatchers cuts p.four c.told-cuts
