-- A mask made port by port. Assumes nothing.
use Rattle.std.proofs.Common.{◌≡◌, ℕ, zero, suc, ◌+◌, ◌*◌, ◌%◌, ◌^◌, ◌<◌, ◌≤◌, Bool, true, false, cond, ap, add-one, arith, pow_mono}
use native.Mathlib.Numerals.{unary_clauses}
use Rattle.std.proofs.lemmas.Bool.{cond-true, cond-false, cond_both}
use Rattle.std.proofs.lemmas.Nat.{one_shl}
use Rattle.model.specs.Lists.{mask_of}

-- the ports below n make a number below 2 to the n
mask_low : (n : ℕ) (test : ℕ → Bool) → mask_of n test < 2 ^ n
mask_low zero test = omega arith
mask_low (suc n) test =
    let rest = mask_low n test in
    let twice : 2 ^ suc n ≡ 2 ^ n + 2 ^ n = simp unary_clauses (omega arith) in
    cond_both (test n) (2 ^ n) 0 (λ x. mask_of n test + x < 2 ^ suc n) (λ e. omega arith) (λ e. omega arith)

module _ (n : ℕ) (test : ℕ → Bool) where
  more : mask_of (n + 1) test ≡ mask_of n test + cond (test n) (2 ^ n) 0
  more = ap (λ k. mask_of k test) (add-one n)

  pub mask_named : n < 8 → test n ≡ true → mask_of (n + 1) test ≡ mask_of n test + (1 * 2 ^ n) % 256
  mask_named low e = omega (arith, more, cond-true (test n) (2 ^ n) 0 e, one_shl n 8 low)

  pub mask_not : test n ≡ false → mask_of (n + 1) test ≡ mask_of n test
  mask_not e = omega (arith, more, cond-false (test n) (2 ^ n) 0 e)

  -- one more port below the eighth leaves a byte
  pub mask_fits : n < 8 → mask_of n test + (1 * 2 ^ n) % 256 < 256
  mask_fits low =
      let seven : n ≤ 7 = omega arith in
      let small : 2 ^ n ≤ 2 ^ 7 = pow_mono seven in
      omega (arith, mask_low n test, one_shl n 8 low)
