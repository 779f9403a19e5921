-- What a notice does to the list of a berth, and the laws that every kind of board shows of its rule. Assumes nothing.
use Rattle.std.specs.Prelude.{◌≡◌, ℕ, ◌<◌, Bool, true, false, not, ◌&&◌, ◌||◌, List, [], ◌∷◌, filter, ◌==◌}
use Rattle.records.specs.declared.notice.Action.{Action}
use Rattle.records.specs.declared.notice.Action.TheVariants.{Take, Leave}
use Rattle.boards.specs.declared.outcome.Outcome.{Outcome}
use Rattle.boards.specs.declared.outcome.Outcome.TheVariants.{Alongside, Gone, Clash, Waits}

abbrev pub outcome_number : Outcome → ℕ
outcome_number Alongside = 1
outcome_number Gone = 2
outcome_number Clash = 3
outcome_number Waits = 4

-- the vessels at a berth: first the one alongside, then those who wait
abbrev pub Vessels : Type 0
Vessels = List ℕ

-- what a notice makes of the list, and its outcome
pub record Turn : Type 0 where
  pub list : Vessels
  pub outcome : Outcome

-- a kind of board's own rule: from the old list, the action and the vessel
abbrev pub Rule : Type 0
Rule = Vessels → Action → ℕ → Turn

-- the vessel is in the list
abbrev pub listed : ℕ → Vessels → Bool
listed v [] = false
listed v (x ∷ xs) = v == x || listed v xs

-- no vessel is in the list twice
abbrev pub once : Vessels → Bool
once [] = true
once (x ∷ xs) = not (listed x xs) && once xs

-- the list without the vessel, the others in their order
abbrev pub without : ℕ → Vessels → Vessels
without v xs = filter (λ x. not (x == v)) xs

-- THE LAWS, of a rule on the lists that the kind of board can hold. No vessel has the number 0.

-- the kind of board can hold the list, and no vessel is in it twice
abbrev pub Fair : (Vessels → Bool) → Vessels → Type 0
Fair holds l = (holds l ≡ true) × (once l ≡ true)

-- a take on an empty list gives the list of that vessel alone, and the vessel is alongside
abbrev pub TakesAlone : Rule → Type 0
TakesAlone rule = (v : ℕ) → 0 < v → ((rule [] Take v).list ≡ v ∷ []) × ((rule [] Take v).outcome ≡ Alongside)

-- after a leave the vessel is not in the list
abbrev pub Leaves : (Vessels → Bool) → Rule → Type 0
Leaves holds rule = (l : Vessels) (v : ℕ) → Fair holds l → 0 < v → listed v (rule l Leave v).list ≡ false

-- the first vessel stays first until its own leave
abbrev pub FirstStays : (Vessels → Bool) → Rule → Type 0
FirstStays holds rule = (x : ℕ) (xs : Vessels) (a : Action) (v : ℕ) → Fair holds (x ∷ xs) → 0 < v → ((a ≡ Leave) × (v ≡ x) → ⊥) → (ys : Vessels) × ((rule (x ∷ xs) a v).list ≡ x ∷ ys)

-- the new list has no vessel twice either
abbrev pub StaysOnce : (Vessels → Bool) → Rule → Type 0
StaysOnce holds rule = (l : Vessels) (a : Action) (v : ℕ) → Fair holds l → 0 < v → once (rule l a v).list ≡ true

-- the outcome is a clash exactly when the list is unchanged
abbrev pub ClashIsSame : (Vessels → Bool) → Rule → Type 0
ClashIsSame holds rule = (l : Vessels) (a : Action) (v : ℕ) → Fair holds l → 0 < v → ((rule l a v).outcome ≡ Clash → (rule l a v).list ≡ l) × ((rule l a v).list ≡ l → (rule l a v).outcome ≡ Clash)

-- the kind of board can hold the new list too
abbrev pub StaysHeld : (Vessels → Bool) → Rule → Type 0
StaysHeld holds rule = (l : Vessels) (a : Action) (v : ℕ) → Fair holds l → 0 < v → holds (rule l a v).list ≡ true
