-- What the lines of a wire mean, and how each call may change them. Assumes nothing.
use Rattle.std.specs.Prelude.{◌≡◌, ℕ, ◌+◌, ◌<◌, ◌≤◌, Bool, cond, not, ◌&&◌, List, [], ◌∷◌, ◌++◌, length, Option, Result, MatchOption, MatchResult, ◌==◌, nat_lt}
use Rattle.records.specs.declared.fault.NetFault.{NetFault}
use Rattle.records.specs.declared.fault.NetFault.TheVariants.{LineFull}
use Rattle.records.specs.declared.notice.Record.{Record}

-- the records put and not yet taken, oldest first, and how many of them, counted from the oldest, have arrived
pub record Line : Type 0 where
  pub held : List Record
  pub arrived : ℕ

-- the lines of a wire, by the port that sends and the port that takes
abbrev pub Lines : Type 0
Lines = ℕ → ℕ → Line

-- a line that holds nothing
abbrev pub empty_line : Line
empty_line = record { held = []; arrived = 0 }

-- there is a line from p to q: different ports from 0 to 7
abbrev pub is_line : ℕ → ℕ → Bool
is_line p q = nat_lt p 8 && (nat_lt q 8 && not (p == q))

-- how many records the line from p to q can hold, on a wire of this depth
abbrev pub depth_of : ℕ → ℕ → ℕ → ℕ
depth_of depth p q = cond (is_line p q) depth 0

-- no line differs
abbrev pub Same : Lines → Lines → Type 0
Same old new = (p q : ℕ) → new p q ≡ old p q

-- no line differs but, it may be, the one from a to b
abbrev pub SameBut : Lines → Lines → ℕ → ℕ → Type 0
SameBut old new a b = (p q : ℕ) → ((p ≡ a) × (q ≡ b) → ⊥) → new p q ≡ old p q

-- x was put on the line from a to b, which held fewer than its depth; what had arrived there has still arrived
pub record Put (depth : ℕ) (old new : Lines) (a b : ℕ) (x : Record) : Type 0 where
  pub space : length (old a b).held < depth_of depth a b
  pub held : (new a b).held ≡ (old a b).held ++ x ∷ []
  pub arrived : (old a b).arrived ≤ (new a b).arrived
  pub others : SameBut old new a b

-- the line from a to b was full, and nothing changed
pub record Refused (depth : ℕ) (old new : Lines) (a b : ℕ) : Type 0 where
  pub full : depth_of depth a b ≤ length (old a b).held
  pub same : Same old new

-- what `put` answers: done, or refused with 15
abbrev pub PutAnswers : {U : Type 0} → ℕ → Lines → Lines → ℕ → ℕ → Record → Result U NetFault → Type 0
PutAnswers depth old new a b x r = MatchResult r (λ _. Put depth old new a b x) (λ f. (f ≡ LineFull) × Refused depth old new a b)

-- x is the oldest record of the line, and has arrived
pub record Looked (l : Line) (x : Record) : Type 0 where
  pub some : 0 < l.arrived
  pub oldest : (rest : List Record) × (l.held ≡ x ∷ rest)

-- nothing has arrived
abbrev pub NotLooked : Line → Type 0
NotLooked l = l.arrived ≡ 0

-- what `look` answers: the oldest record if it has arrived, otherwise none
abbrev pub LookAnswers : Line → Option Record → Type 0
LookAnswers l r = MatchOption r (NotLooked l) (Looked l)

-- x, the oldest record of the line from a to b, had arrived and was removed
pub record Taken (old new : Lines) (a b : ℕ) (x : Record) : Type 0 where
  pub held : (old a b).held ≡ x ∷ (new a b).held
  pub arrived : (old a b).arrived ≡ (new a b).arrived + 1
  pub others : SameBut old new a b

-- nothing had arrived on the line from a to b, and nothing changed
pub record NotTaken (old new : Lines) (a b : ℕ) : Type 0 where
  pub none : (old a b).arrived ≡ 0
  pub same : Same old new

-- what `take` answers: as `look`, and a record answered was removed
abbrev pub TakeAnswers : Lines → Lines → ℕ → ℕ → Option Record → Type 0
TakeAnswers old new a b r = MatchOption r (NotTaken old new a b) (Taken old new a b)

-- more of the line from a to b may have arrived, and nothing else changed
pub record Brought (old new : Lines) (a b : ℕ) : Type 0 where
  pub held : (new a b).held ≡ (old a b).held
  pub arrived : (old a b).arrived ≤ (new a b).arrived
  pub others : SameBut old new a b

-- every line is empty, so nothing has arrived
abbrev pub Emptied : Lines → Type 0
Emptied new = (p q : ℕ) → new p q ≡ empty_line
