-- What a ring holds, oldest first. Assumes nothing.
use Rattle.std.specs.Prelude.{ℕ, List, ◌++◌, take, drop}

-- len slots from head on, going round
abbrev pub ringed : {A : Type 0} → ℕ → ℕ → List A → List A
ringed head len slots = take len (drop head (slots ++ slots))
