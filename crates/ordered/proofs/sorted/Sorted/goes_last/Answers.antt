use Rattle.std.proofs.Common.{sym, ◌∙◌, arith}
use Rattle.std.proofs.lemmas.Bool.{not-true}
use Rattle.ordered.proofs.Lasts.{behind_taken}
use Rattle.ordered.proofs.sorted.Sorted.goes_last.Goals as goal

pub returns-else-self-eq0 : goal.returns-else-self-eq0
returns-else-self-eq0 g c it =
    let s = c.args.self.now in
    behind_taken g.met.T.Entry.total c.args.x.now s.places s.len c.index-self-self.result (omega (arith, c.if-self-eq0.false)) s.within s.rises
    (sym c.is_before.ensures ∙ not-true c.is_before.result it)
