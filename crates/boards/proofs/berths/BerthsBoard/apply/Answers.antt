use Rattle.std.proofs.Common.{get_or, ap, ◌∙◌, arith}
use Rattle.boards.proofs.BerthLaws.{named_is}
use Rattle.boards.proofs.PlaceLaws.{applied_here}
use Rattle.boards.proofs.berths.BerthsBoard.apply.Goals as goal

pub returns-in-Some : goal.returns-in-Some
returns-in-Some g c =
    let is = named_is g.K.Berth.rule (g.K.Berth.vessels (get_or c.args.self.now.lists c.in-Some.i c.index-self-i.result)) c.args.action c.args.vessel (omega arith) in
    applied_here g.K.Berth.vessels c.args.self.now.lists c.args.at.watching c.args.at.home c.args.at.berth c.in-Some.i (omega arith) c.in-Some.ensures g.K.Berth.rule c.args.action c.args.vessel c.index-self-i.result _ c.turn.result (omega arith) (c.turn.ensures.list ∙ ap (λ t. t.list) is) (c.turn.ensures.outcome ∙ ap (λ t. t.outcome) is)
