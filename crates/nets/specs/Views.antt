-- What a net means. Assumes nothing.
use Rattle.std.specs.Prelude.{◌≡◌, ℕ, List, map, get_or, slice_index_or}
use Rattle.records.specs.Reaching.{nobody}
use Rattle.records.specs.declared.reach.Reach.{Reach}
use Rattle.wires.specs.Lines.{Lines}
use Rattle.boards.specs.Rules.{Vessels}
use Rattle.model.specs.Views.{Table, PortView, View, fresh}
use Rattle.ports.specs.declared.port.Port.{Port}
use Rattle.ports.specs.Ports.{port_view}
use Rattle.nets.specs.declared.net.Net.{Net}

-- a reach table: how many ports, and the mask of each
abbrev pub table_of : Reach → Table
table_of r = record { ports = r.ports; mask = λ f. (get_or r.masks f nobody).bits }

-- the ports, by number; a number above 7 is a port at which nothing ever happened
abbrev pub ports_of : List Port → ℕ → PortView
ports_of ps p = slice_index_or (map port_view ps) p fresh

-- a net, by what its wire's lines mean and what its board shows
abbrev pub view : {W B : Type 0} → (W → Lines) → (B → ℕ → ℕ → ℕ → Vessels) → Net W B → View
view line shown n = record { table = table_of n.reach; port = ports_of n.ports; line = line n.wire; shown = shown n.board }

-- nothing of the net differs
pub record SameNet {W B : Type 0} (old new : Net W B) : Type 0 where
  pub reach : new.reach ≡ old.reach
  pub ports : new.ports ≡ old.ports
  pub wire : new.wire ≡ old.wire
  pub board : new.board ≡ old.board
