-- Words on lists and on the ports of a mask. Assumes nothing.
use Rattle.std.specs.Prelude.{ℕ, zero, suc, ◌+◌, ◌^◌, Bool, true, cond, ◌&&◌, List, [], ◌∷◌}
use Rattle.ordered.specs.Orders.{placed}

-- each of several put in its place
abbrev pub placed_all : {X : Type 0} → (X → X → Bool) → List X → List X → List X
placed_all before [] xs = xs
placed_all before (y ∷ ys) xs = placed_all before ys (placed before y xs)

-- all but the first
abbrev pub rest : {X : Type 0} → List X → List X
rest [] = []
rest (x ∷ xs) = xs

-- the test passes for each number below n
abbrev pub every : ℕ → (ℕ → Bool) → Bool
every zero test = true
every (suc n) test = every n test && test n

-- the mask of the ports below n for which the test passes
abbrev pub mask_of : ℕ → (ℕ → Bool) → ℕ
mask_of zero test = 0
mask_of (suc n) test = mask_of n test + cond (test n) (2 ^ n) 0
