-- The printed line. Assumes nothing.
use Rattle.std.specs.Prelude.{ℕ, List, [], ◌∷◌, ◌++◌, decimal}
use Rattle.events.specs.Letters.{letter_of}
use Rattle.streams.specs.Numbers.{part_number}
use Rattle.answers.specs.declared.line.Line.{Line}
use Rattle.answers.specs.declared.line.Line.TheVariants.{Table, Event, Refused}
use Rattle.answers.specs.Answers.{space, item, result_text}

-- place and letter
abbrev pub head_text : ℕ → ℕ → List ℕ
head_text place letter = decimal place ++ (space ∷ letter ∷ [])

-- T for the table, X for a refusal that ends the run, as the codes of these characters
abbrev pub table_letter : ℕ
table_letter = 84

abbrev pub refusal_letter : ℕ
refusal_letter = 88

-- place and letter, 0 or the refusal's number, and details
abbrev pub body_text : Line → List ℕ
body_text Table = head_text 0 table_letter ++ item space 0
body_text (Event a) = head_text a.place (letter_of a.event) ++ result_text a.answer
body_text (Refused r) = head_text r.place refusal_letter ++ item space (part_number r.part)

-- the line, of which a line feed is the last byte
abbrev pub line_text : Line → List ℕ
line_text l = body_text l ++ (10 ∷ [])
