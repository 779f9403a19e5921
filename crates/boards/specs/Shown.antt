-- What a board shows, and how each call may change it. Assumes nothing.
use Rattle.std.specs.Prelude.{◌≡◌, ℕ, Bool, true, false, cond, ◌&&◌, [], ◌==◌, nat_le, nat_lt}
use Rattle.records.specs.declared.notice.Action.{Action}
use Rattle.boards.specs.Rules.{Vessels, Turn, Rule, listed, once}
use Rattle.boards.specs.declared.outcome.Outcome.{Outcome}
use Rattle.boards.specs.declared.outcome.Outcome.TheVariants.{Clash}

-- the lists of a board, by watching port, home port and berth
abbrev pub Lists : Type 0
Lists = ℕ → ℕ → ℕ → Vessels

-- there is such a list: watching port and home 0 to 7, berth 0 to 15
abbrev pub is_berth : ℕ → ℕ → ℕ → Bool
is_berth w h b = nat_lt w 8 && (nat_lt h 8 && nat_le b 15)

-- the numbers of a notice are in range: those of a list, and a vessel that is not 0
abbrev pub in_range : ℕ → ℕ → ℕ → ℕ → Bool
in_range w h b v = nat_lt w 8 && (nat_lt h 8 && (nat_le b 15 && nat_lt 0 v))

-- what a notice makes of the list of its berth at a watching port: what the rule says, and out of range a clash
abbrev pub turned : Rule → ℕ → ℕ → ℕ → Action → ℕ → Vessels → Turn
turned rule w h b a v old = cond (in_range w h b v) (rule old a v) (record { list = old; outcome = Clash })

-- the notice (a, v) was applied at watching port w to berth b of home h, with this outcome: only that list changed
pub record Applied (rule : Rule) (old new : Lists) (w h b : ℕ) (a : Action) (v : ℕ) (o : Outcome) : Type 0 where
  pub outcome : o ≡ (turned rule w h b a v (old w h b)).outcome
  pub lists : (p q k : ℕ) → new p q k ≡ cond (p == w && (h == q && b == k)) (turned rule p h b a v (old p q k)).list (old p q k)

-- every list is empty
abbrev pub Emptied : Lists → Type 0
Emptied new = (p q k : ℕ) → new p q k ≡ []

-- where there is no berth, nothing is shown
abbrev pub NoneOutside : Lists → Type 0
NoneOutside all = (p q k : ℕ) → is_berth p q k ≡ false → all p q k ≡ []

-- each list is one that the kind of board can hold, with no vessel twice and none of number 0
pub record Proper (holds : Vessels → Bool) (l : Vessels) : Type 0 where
  pub held : holds l ≡ true
  pub apart : once l ≡ true
  pub named : listed 0 l ≡ false
