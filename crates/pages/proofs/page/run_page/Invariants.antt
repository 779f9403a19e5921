use Rattle.std.proofs.Common.{◌≡◌, ◌++◌, drop, vec_items}
use Rattle.answers.specs.declared.line.Line.TheVariants.{Table}
use Rattle.answers.specs.Lines.{line_text}
use Rattle.pages.specs.Pages.{answers_text}
use Rattle.pages.proofs.page.run_page.Given as goal

-- with the lines of the answers that are left the page has them all
abbrev pub invariant-loop-answered : goal.invariant-loop-answered
invariant-loop-answered l = vec_items l.page ++ answers_text (drop l.answered-index l.answers) ≡ line_text Table ++ answers_text l.answers
