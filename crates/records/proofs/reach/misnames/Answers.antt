use Rattle.std.proofs.Common.{ℕ, refl, arith, rules}
use borrow.Author.Tests.{tests}
use Rattle.std.proofs.lemmas.Iterator.{cases_from_any, YieldsList-from_range}
use Rattle.records.specs.Reaching.{Misnames}
use Rattle.records.proofs.Ports.{any_below}
use Rattle.records.proofs.ReachLaws.{misnames_any}
use Rattle.records.proofs.reach.misnames.Goals as goal

pub returns : goal.returns
returns c =
    let Yes : ℕ → Type 0 = Misnames c.args.ports c.args.port c.args.mask.bits in
    let No : ℕ → Type 0 = λ q. Yes q → ⊥ in
    misnames_any c.args.ports c.args.port c.args.mask.bits (omega arith) c.any.result (any_below 8 Yes No c.any.result (cases_from_any _ _ _ Yes No c.any.ensures.ran (YieldsList-from_range 0 8 8 refl (omega arith)) (λ x q k. search (rules, tests)) (λ x q k. search (rules, tests))))
