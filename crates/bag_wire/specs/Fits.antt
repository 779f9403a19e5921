-- How much of a line has arrived, and how much it holds. Assumes nothing.
use Rattle.std.specs.Prelude.{ℕ, ◌≤◌, List, length}
use Rattle.std.specs.List.{prefix_len}
use Rattle.std.proofs.Common.{sym, subst}
use Rattle.std.proofs.lemmas.List.{length-map}
use Rattle.std.proofs.lemmas.List.Sums.{prefix_len-le-length}
use Rattle.bag_wire.specs.declared.entry.Entry.{Entry}
use Rattle.bag_wire.specs.Journals.{line_of}

pub arrived_fits : (es : List Entry) → (line_of es).arrived ≤ length (line_of es).held
arrived_fits es = subst (λ n. prefix_len (λ e. e.arrived) es ≤ n) (sym (length-map es (λ e. e.item))) (prefix_len-le-length (λ e. e.arrived) es)

pub held_fits : (es : List Entry) (n : ℕ) → length es ≤ n → length (line_of es).held ≤ n
held_fits es n = subst (λ m. m ≤ n) (sym (length-map es (λ e. e.item)))
