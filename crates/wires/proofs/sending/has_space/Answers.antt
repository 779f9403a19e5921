use Rattle.std.proofs.Common.{ℕ, arith, rules}
use borrow.Author.Tests.{tests}
use Rattle.std.proofs.lemmas.Iterator.{cases_from_all, YieldsList-from_range}
use Rattle.records.proofs.Ports.{all_below}
use Rattle.wires.proofs.Spaces.{Clear, Blocked, space_cases}
use Rattle.wires.proofs.sending.has_space.Goals as goal

pub returns : goal.returns
returns g c =
    let m = g.W.Wire in
    let lines = m.line c.args.wire.now in
    let a = c.args.from in
    let mask = c.args.to.bits in
    let Yes : ℕ → Type 0 = Clear m.depth lines a mask in
    let No : ℕ → Type 0 = Blocked m.depth lines a mask in
    space_cases m.depth lines a mask (omega arith) c.all.result
    (all_below 8 Yes No c.all.result
    (cases_from_all _ _ _ Yes No c.all.ensures.ran (YieldsList-from_range 0 8 8 (search rules) (omega arith)) (λ x q k. search (rules, tests)) (λ x q k. search (rules, tests))))
