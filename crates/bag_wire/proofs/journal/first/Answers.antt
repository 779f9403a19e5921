use Rattle.std.proofs.Common.{◌≡◌, false, true, rules}
use borrow.Author.Tests.{tests}
use Rattle.std.proofs.lemmas.Iterator.{IsFirst-from_position, YieldsList-from_slice}
use Rattle.bag_wire.specs.Journals.{on}
use Rattle.bag_wire.proofs.JournalLaws.{first_cases}
use Rattle.bag_wire.proofs.journal.first.Goals as goal

pub returns : goal.returns
returns c =
    let es = c.args.entries.now in
    let test = on c.args.ends.from c.args.ends.to in
    first_cases es c.args.ends.from c.args.ends.to c.position.result
    (IsFirst-from_position _ _ _ (λ e. test e ≡ true) (λ e. test e ≡ false) c.position.ensures.ran (YieldsList-from_slice es cc) (λ x q k. search (rules, tests)) (λ x q k. search (rules, tests)))
