-- How a page grows. Assumes nothing.
use Rattle.std.proofs.Common.{◌≡◌, ℕ, ◌+◌, ◌<◌, ◌≤◌, cond, List, ◌++◌, length, get_or, take, drop, is_ok, Ok, Err, Result, sym, ap, ◌∙◌, MatchResult}
use Rattle.std.proofs.lemmas.List.{take_at, append_assoc, append-nil, drop_more, drop_all}
use Rattle.answers.specs.Texts.{Printed}
use Rattle.answers.specs.declared.answer.Answered.{Answered}
use Rattle.answers.specs.declared.line.Line.TheVariants.{Event}
use Rattle.answers.specs.Lines.{line_text}
use Rattle.pages.specs.Pages.{answers_text}

-- the printed front of a memory is added to the page, or nothing is
pub added : {T E : Type 0} {text old new : List ℕ} (n : ℕ) (r : Result T E) (page page' : List ℕ) → Printed text old new n → page' ≡ cond (is_ok r) (page ++ take n new) page → MatchResult r (λ _. page' ≡ page ++ text) (λ _. page' ≡ page)
added {text = text} {old} n (Ok x) page page' p e = e ∙ ap (λ z. page ++ z) (ap (take n) p.bytes ∙ take_at text (drop n old) n (sym p.count))
added n (Err y) page page' p e = e

-- one answer more
pub lines_more : (page page' all : List ℕ) (xs : List Answered) (i : ℕ) (a : Answered) → i < length xs → page ++ answers_text (drop i xs) ≡ all → page' ≡ page ++ line_text (Event (get_or xs i a)) → page' ++ answers_text (drop (i + 1) xs) ≡ all
lines_more page page' all xs i a lt inv e =
    let line = line_text (Event (get_or xs i a)) in
    ap (λ z. z ++ answers_text (drop (i + 1) xs)) e
    ∙ append_assoc page line (answers_text (drop (i + 1) xs))
    ∙ ap (λ z. page ++ answers_text z) (sym (drop_more xs i a lt))
    ∙ inv

-- behind the last answer
pub lines_all : (page all : List ℕ) (xs : List Answered) (i : ℕ) → length xs ≤ i → page ++ answers_text (drop i xs) ≡ all → page ≡ all
lines_all page all xs i le inv = sym (append-nil page) ∙ ap (λ z. page ++ answers_text z) (sym (drop_all i xs le)) ∙ inv
