-- The rules of the first-come board and of the queue board. Assumes nothing.
use Rattle.std.specs.Prelude.{ℕ, Bool, cond, ◌||◌, [], ◌∷◌, ◌++◌, length, ◌==◌, nat_le}
use Rattle.records.specs.declared.notice.Action.TheVariants.{Take, Leave}
use Rattle.boards.specs.Rules.{Vessels, Turn, Rule, listed, without}
use Rattle.boards.specs.declared.outcome.Outcome.TheVariants.{Alongside, Gone, Clash, Waits}

-- the list stays as it was
abbrev pub clash : Vessels → Turn
clash l = record { list = l; outcome = Clash }

-- what the rule makes of a vessel; 0 is none, and clashes
abbrev pub named : Rule → Rule
named rule l a v = cond (v == 0) (clash l) (rule l a v)

-- the vessel has the berth, alone
abbrev pub berthed : ℕ → Turn
berthed v = record { list = v ∷ []; outcome = Alongside }

-- on both kinds a leave by a listed vessel removes it, and any other leave clashes
abbrev pub left : Vessels → ℕ → Turn
left l v = cond (listed v l) (record { list = without v l; outcome = Gone }) (clash l)

-- first come: a take on a list that is not empty clashes
abbrev pub taken_first : Vessels → ℕ → Turn
taken_first [] v = berthed v
taken_first (x ∷ xs) v = clash (x ∷ xs)

abbrev pub first_come : Rule
first_come l Take v = taken_first l v
first_come l Leave v = left l v

-- queue: a take by a listed vessel or on a list of four clashes; any other on a list that is not empty appends
abbrev pub taken_last : Vessels → ℕ → Turn
taken_last [] v = berthed v
taken_last (x ∷ xs) v = cond (listed v (x ∷ xs) || nat_le 4 (length (x ∷ xs))) (clash (x ∷ xs)) (record { list = x ∷ xs ++ v ∷ []; outcome = Waits })

abbrev pub queue : Rule
queue l Take v = taken_last l v
queue l Leave v = left l v

-- the kind of board holds at most so many vessels at a berth, the one alongside counted
abbrev pub at_most : ℕ → Vessels → Bool
at_most n l = nat_le (length l) n
