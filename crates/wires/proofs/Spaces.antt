-- Whether the lines to the ports of a mask have space, port by port. Assumes nothing.
use Rattle.std.proofs.Common.{◌≡◌, ℕ, ◌<◌, ◌≤◌, Bool, true, false, length, MatchBool, ⊎_elim}
use Rattle.std.proofs.lemmas.Bool.{both_ways, cases_lt}
use Rattle.records.specs.Masks.{named}
use Rattle.records.proofs.MaskLaws.{none_above}
use Rattle.wires.specs.Lines.{Lines, depth_of}
use Rattle.wires.specs.Growths.{Space, NoSpace}

module _ (depth : ℕ) (lines : Lines) (a mask : ℕ) where
  -- the line to q has space, or the mask does not name it
  abbrev pub Clear : ℕ → Type 0
  Clear q = named mask q ≡ true → length (lines a q).held < depth_of depth a q

  -- the mask names q, and the line to it is full
  abbrev pub Blocked : ℕ → Type 0
  Blocked q = (named mask q ≡ true) × (depth_of depth a q ≤ length (lines a q).held)

  pub space_cases : mask < 256 → (r : Bool) → MatchBool r ((q : ℕ) → q < 8 → Clear q) ((q : ℕ) × (q < 8) × Blocked q) → MatchBool r (Space depth lines a mask) (NoSpace depth lines a mask)
  space_cases byte true each = λ q on.
      ⊎_elim
      (λ (h : q < 8). each q h on)
      (λ (h : 8 ≤ q). absurd (both_ways (named mask q) (none_above mask q byte h) on))
      (cases_lt q 8)
  space_cases byte false (q, lt, full) = (q, full.0, full.1)
