-- What insert and take-first do to memory whose first len places hold the entries. Assumes nothing.
use Rattle.std.specs.Prelude.{◌≡◌, ℕ, ◌+◌, ◌-◌, ◌<◌, ◌≤◌, Bool, ◌⊎◌, List, ◌∷◌, length, take, drop, Some, None, Ok, Err, Option, Result}
use Rattle.ordered.specs.Orders.{Least, Rising, Strict, Fresh, placed, place_of}

-- x stands at place among what are now len + 1 entries, and the memory behind them is as it was
pub record Put {X : Type 0} (key : X → List ℕ) (before : X → X → Bool) (x : X) (len place : ℕ) (old new : List X) : Type 0 where
  pub room : len < length old
  pub place_is : place ≡ place_of before x (take len old)
  pub entries : take (len + 1) new ≡ placed before x (take len old)
  pub beyond : drop (len + 1) new ≡ drop (len + 1) old
  pub rising : Rising before (take len old) → Rising before (take (len + 1) new)
  pub strict : Strict before (take len old) → Fresh key x (take len old) → Strict before (take (len + 1) new)

abbrev pub Insertion : {X E : Type 0} → (X → List ℕ) → (X → X → Bool) → X → ℕ → List X → List X → Result ℕ E → Type 0
Insertion key before x len old new (Ok place) = Put key before x len place old new
Insertion key before x len old new (Err full) = (length old ≤ len) × (new ≡ old)

-- x was the first of len entries: the others moved up one place, and the place left by the last of them holds x now
pub record Taken {X : Type 0} (before : X → X → Bool) (x : X) (len : ℕ) (old new : List X) : Type 0 where
  pub some : 0 < len
  pub within : len ≤ length old
  pub entries : take len old ≡ x ∷ take (len - 1) new
  pub beyond : drop (len - 1) new ≡ x ∷ drop len old
  pub least : Rising before (take len old) → Least before x (take (len - 1) new)
  pub rising : Rising before (take len old) → Rising before (take (len - 1) new)
  pub strict : Strict before (take len old) → Strict before (take (len - 1) new)

-- there is none to take of no entries, nor of more than the memory has places
abbrev pub Taking : {X : Type 0} → (X → X → Bool) → ℕ → List X → List X → Option X → Type 0
Taking before len old new (Some x) = Taken before x len old new
Taking before len old new None = ((len ≡ 0) ⊎ (length old < len)) × (new ≡ old)
