-- Which ports a mask names. Assumes nothing.
use Rattle.std.specs.Prelude.{ℕ, ◌-◌, ◌/◌, ◌%◌, ◌^◌, Bool, cond, ◌==◌}

-- the bit of port p is set in the byte
abbrev pub named : ℕ → ℕ → Bool
named bits p = bits / 2 ^ p % 2 == 1

-- the byte with the bit of port p cleared
abbrev pub without : ℕ → ℕ → ℕ
without p bits = cond (named bits p) (bits - 2 ^ p) bits
