-- Records put on several lines from one port: all, or none. Assumes nothing.
use Rattle.std.specs.Prelude.{◌≡◌, ℕ, true, false, Result, MatchResult}
use Rattle.records.specs.declared.fault.NetFault.{NetFault}
use Rattle.records.specs.declared.fault.NetFault.TheVariants.{LineFull}
use Rattle.wires.specs.Lines.{Lines}
use Rattle.wires.specs.Growths.{Extra, Grown}
use Rattle.model.specs.Refusals.{room}

-- each line from the port had room for what it was to get, and got it
pub record AllPut (depth : ℕ) (old new : Lines) (port : ℕ) (extra : Extra) : Type 0 where
  pub fits : room depth old port extra ≡ true
  pub lines : Grown old new extra

-- one of them had too few free places, and the wire, of whatever kind, did not change
pub record NonePut {W : Type 0} (line : W → Lines) (depth : ℕ) (old new : W) (port : ℕ) (extra : Extra) : Type 0 where
  pub full : room depth (line old) port extra ≡ false
  pub same : new ≡ old

-- what such a call answers: done, or refused with 15
abbrev pub AllOrNone : {U W : Type 0} → (W → Lines) → ℕ → W → W → ℕ → Extra → Result U NetFault → Type 0
AllOrNone line depth old new port extra r = MatchResult r (λ _. AllPut depth (line old) (line new) port extra) (λ f. (f ≡ LineFull) × NonePut line depth old new port extra)
