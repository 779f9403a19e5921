-- How lines grow when records are put on several of them. Assumes nothing.
use Rattle.std.specs.Prelude.{◌≡◌, ℕ, ◌<◌, ◌≤◌, true, cond, ◌&&◌, List, [], ◌∷◌, ◌++◌, length, Result, MatchResult, ◌==◌}
use Rattle.records.specs.declared.fault.NetFault.{NetFault}
use Rattle.records.specs.declared.fault.NetFault.TheVariants.{LineFull}
use Rattle.records.specs.Masks.{named}
use Rattle.records.specs.declared.notice.Record.{Record}
use Rattle.wires.specs.Lines.{Lines, depth_of}

-- what is put on each line, oldest first, by the port that sends and the port that takes
abbrev pub Extra : Type 0
Extra = ℕ → ℕ → List Record

-- the extra was put on every line; a line that got none is as it was, and what had arrived on one has still arrived
pub record Grown (old new : Lines) (extra : Extra) : Type 0 where
  pub held : (p q : ℕ) → (new p q).held ≡ (old p q).held ++ extra p q
  pub arrived : (p q : ℕ) → (old p q).arrived ≤ (new p q).arrived
  pub others : (p q : ℕ) → extra p q ≡ [] → new p q ≡ old p q

-- x alone, on the line from a to b
abbrev pub single : ℕ → ℕ → Record → Extra
single a b x p q = cond (p == a && q == b) (x ∷ []) []

-- x, on the line from a to each port that the mask names
abbrev pub to_each : ℕ → ℕ → Record → Extra
to_each a mask x p q = cond (p == a && named mask q) (x ∷ []) []

-- the line from a to each port that the mask names holds fewer than its depth
abbrev pub Space : ℕ → Lines → ℕ → ℕ → Type 0
Space depth lines a mask = (q : ℕ) → named mask q ≡ true → length (lines a q).held < depth_of depth a q

-- the line from a to one of the ports that the mask names is full
abbrev pub NoSpace : ℕ → Lines → ℕ → ℕ → Type 0
NoSpace depth lines a mask = (q : ℕ) × (named mask q ≡ true) × (depth_of depth a q ≤ length (lines a q).held)

-- x was put on the line from a to each port that the mask names, and all of them had space
pub record Sent (depth : ℕ) (old new : Lines) (a mask : ℕ) (x : Record) : Type 0 where
  pub space : Space depth old a mask
  pub lines : Grown old new (to_each a mask x)

-- one of them was full, and the wire, of whatever kind, did not change
pub record Unsent {W : Type 0} (line : W → Lines) (depth : ℕ) (old new : W) (a mask : ℕ) : Type 0 where
  pub full : NoSpace depth (line old) a mask
  pub same : new ≡ old

-- what `send` answers: done, or refused with 15
abbrev pub SendAnswers : {U W : Type 0} → (W → Lines) → ℕ → W → W → ℕ → ℕ → Record → Result U NetFault → Type 0
SendAnswers line depth old new a mask x r = MatchResult r (λ _. Sent depth (line old) (line new) a mask x) (λ f. (f ≡ LineFull) × Unsent line depth old new a mask)
