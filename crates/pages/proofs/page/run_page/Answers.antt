use Rattle.std.proofs.Common.{◌++◌, vec_items, ap, ◌∙◌}
use Rattle.answers.specs.declared.line.Line.TheVariants.{Table}
use Rattle.answers.specs.Lines.{line_text}
use Rattle.pages.specs.Pages.{answers_text, end_text}
use Rattle.pages.proofs.Paging.{lines_all}
use Rattle.pages.proofs.page.run_page.Goals as goal

pub returns : goal.returns
returns c =
    let l = c.loop-answered in
    let all = lines_all (vec_items l.page) (line_text Table ++ answers_text c.args.answers.now) c.args.answers.now l.answered-index c.loop-answered-test.false l.invariant in
    c.in_ok-add_end.ensures ∙ ap (λ z. z ++ end_text c.args.end) all
