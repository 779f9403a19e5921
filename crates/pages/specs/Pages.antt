-- What is printed of a run. Assumes nothing.
use Rattle.std.specs.Prelude.{ℕ, List, [], ◌∷◌, ◌++◌, Ok, Err, Result}
use Rattle.streams.specs.declared.part.StreamFault.{StreamFault}
use Rattle.streams.specs.declared.part.StreamFault.TheVariants as fault
use Rattle.answers.specs.declared.answer.Answered.{Answered}
use Rattle.answers.specs.declared.line.Line.TheVariants.{Table, Event, Refused}
use Rattle.answers.specs.Lines.{line_text}

-- a line for each answer
abbrev pub answers_text : List Answered → List ℕ
answers_text [] = []
answers_text (a ∷ others) = line_text (Event a) ++ answers_text others

-- the line of the refusal that ended the run; the end of the stream has none, nor has want of memory
abbrev pub end_text : Result (Unit {0}) StreamFault → List ℕ
end_text (Ok done) = []
end_text (Err (fault.Refused r)) = line_text (Refused r)
end_text (Err (fault.NoMemory place)) = []

-- the table's line, the answers', and the end's
abbrev pub run_text : List Answered → Result (Unit {0}) StreamFault → List ℕ
run_text answers ending = (line_text Table ++ answers_text answers) ++ end_text ending
