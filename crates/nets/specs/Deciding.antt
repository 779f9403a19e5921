-- What a decide on a net is asked. Assumes nothing.
use Rattle.std.specs.Prelude.{ℕ, List, length}
use Rattle.records.specs.declared.notice.Decided.{Decided}
use Rattle.model.specs.Calls.{Decide}

-- the port, the number of the batch, a cut for each dispatcher, and the working list, whose places count
abbrev pub deciding_call : ℕ → ℕ → List ℕ → List Decided → Decide
deciding_call port number cuts working = record { port = port; number = number; cuts = cuts; places = length working }
