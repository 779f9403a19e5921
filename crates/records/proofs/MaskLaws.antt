-- What a byte says of each port. Assumes nothing.
use Rattle.std.proofs.Common.{◌≡◌, ℕ, ◌%◌, ◌^◌, ◌<◌, ◌≤◌, false, eqb, ap, lt_of_lt_of_le, pow_mono}
use native.Mathlib.Nat.{div-eq_of_lt, zero-div}
use Rattle.records.specs.Masks.{named}

-- a byte names no port above 7
pub none_above : (bits p : ℕ) → bits < 256 → 8 ≤ p → named bits p ≡ false
none_above bits p byte above = ap (λ n. eqb (n % 2) 1) (div-eq_of_lt (lt_of_lt_of_le byte (pow_mono above)))

-- the empty mask names nobody
pub none_named : (p : ℕ) → named 0 p ≡ false
none_named p = ap (λ n. eqb (n % 2) 1) (zero-div (2 ^ p))
