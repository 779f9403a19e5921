-- What every call on a net promises. Assumes nothing.
use Rattle.std.specs.Prelude.{ℕ, ◌∷◌, Result, MatchResult}
use Rattle.records.specs.declared.fault.NetFault.{NetFault}
use Rattle.boards.specs.Rules.{Rule}
use Rattle.boards.specs.declared.board.Board.{Ghosts as BoardKind}
use Rattle.wires.specs.declared.wire.Wire.{Ghosts as WireKind}
use Rattle.model.specs.Calls.{Call}
use Rattle.model.specs.Histories.{Told, History, Step, Lived, refused}
use Rattle.model.specs.Law.{OneOrder}
use Rattle.model.specs.Views.{View}
use Rattle.nets.specs.Views.{view}
use Rattle.nets.specs.declared.net.Net.{Net}

-- the call, with this answer, did to the net what the rules define; and after every history that led to this net the law of
-- one order holds of that history with this call
pub record Kept (depth : ℕ) (rule : Rule) (v : View) (e : Told) (w : View) : Type 0 where
  pub does : Step depth rule v e w
  pub lives : (h : History) → Lived depth rule h v → Lived depth rule (e ∷ h) w × OneOrder (e ∷ h) w

-- the same of a call whose doing is defined for nets that some history led to, as every net is that was opened
abbrev pub KeptAfter : ℕ → Rule → View → Told → View → Type 0
KeptAfter depth rule v e w = (h : History) → Lived depth rule h v → Step depth rule v e w × (Lived depth rule (e ∷ h) w × OneOrder (e ∷ h) w)

-- ---- the same of a net over a kind of wire and a kind of board

module _ {W B : Type 0} (wire : WireKind W) (board : BoardKind B) where
  -- what the net means
  abbrev pub seen : Net W B → View
  seen n = view wire.line board.shown n

  abbrev pub KeptOn : Net W B → Told → Net W B → Type 0
  KeptOn old e new = Kept wire.depth board.rule (seen old) e (seen new)

  abbrev pub KeptOnAfter : Net W B → Told → Net W B → Type 0
  KeptOnAfter old e new = KeptAfter wire.depth board.rule (seen old) e (seen new)

  -- the call was taken, and its answer told; or refused
  abbrev pub Promised : {A : Type 0} → Net W B → Net W B → Result A NetFault → (A → Told) → Call → Type 0
  Promised old new r told call = MatchResult r (λ a. KeptOn old (told a) new) (λ f. KeptOn old (refused call f) new)

  abbrev pub PromisedAfter : {A : Type 0} → Net W B → Net W B → Result A NetFault → (A → Told) → Call → Type 0
  PromisedAfter old new r told call = MatchResult r (λ a. KeptOnAfter old (told a) new) (λ f. KeptOnAfter old (refused call f) new)
