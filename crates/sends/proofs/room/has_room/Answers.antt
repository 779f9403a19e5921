use Rattle.std.proofs.Common.{ℕ, ◌-◌, Bool, leb, length, refl, ◌∙◌, arith, rules}
use borrow.Author.Tests.{tests}
use Rattle.std.proofs.lemmas.Iterator.{YieldsList-from_range}
use Rattle.std.proofs.lemmas.Iterator.Search.{all_from_yields_List}
use Rattle.wires.specs.Lines.{depth_of}
use Rattle.model.specs.Batches.{copies_on}
use Rattle.model.proofs.Every.{every_range}
use Rattle.sends.proofs.room.has_room.Goals as goal

pub returns : goal.returns
returns g c =
    let line = g.W.Wire.line c.args.wire.now in
    let port = c.args.port in
    let test : ℕ → Bool = λ q. leb (length (copies_on port c.args.notices.now port q)) (depth_of g.W.Wire.depth port q - length (line port q).held) in
    all_from_yields_List test c.all.new.self _ c.all.result c.all.ensures.ran (YieldsList-from_range 0 8 8 refl (omega arith)) (λ x b q k. search (rules, tests))
    ∙ every_range 8 test
