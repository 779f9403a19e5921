-- One port's bit turned off. Assumes nothing.
use Rattle.std.proofs.Common.{◌≡◌, ℕ, suc, ◌+◌, ◌-◌, ◌*◌, ◌/◌, ◌%◌, ◌^◌, ◌<◌, ◌≤◌, Bool, true, false, not, ◌&&◌, eqb, sym, refl, ap, ◌∙◌, ⊎_elim, pow-suc, arith, pow_pos, pow-add}
use native.Mathlib.Nat.{div-eq_of_lt, div_self, mul-mod_left}
use lib.Bits.{bit_xor, xor_shr, xor_mod, xor_zero_r}
use lib.Pow.{pow-lt, shl-shr}
use Rattle.std.proofs.lemmas.Nat.{one_shl}
use Rattle.std.proofs.lemmas.Bool.{cases_lt, cases_eq, cond-true, eqb-true, eq-eqb, ne_eqb, both_ways}
use Rattle.std.proofs.lemmas.Nat.Bits.{and_pow}
use Rattle.std.specs.Int.Bits.{bit_and, xor_add_and}
use Rattle.records.specs.Masks.{named, without}
use Rattle.records.proofs.MaskLaws.{none_above}

-- bit p has no other bit
other_bit : (p q : ℕ) → (q ≡ p → ⊥) → 2 ^ p / 2 ^ q % 2 ≡ 0
other_bit p q ne =
    ⊎_elim
    (λ (above : p < q). ap (λ n. n % 2) (div-eq_of_lt (pow-lt above)))
    (λ (le : q ≤ p).
    let k = p - (q + 1) in
    let sum : p ≡ suc k + q = omega (arith, λ (z : q ≡ p). ne z) in
    ap (λ n. 2 ^ n / 2 ^ q % 2) sum
    ∙ ap (λ n. n / 2 ^ q % 2) (pow-add 2 (suc k) q)
    ∙ ap (λ n. n % 2) (shl-shr (2 ^ suc k) q ∙ pow-suc 2 k)
    ∙ mul-mod_left (2 ^ k) 2)
    (cases_lt p q)

turned : (bits b q : ℕ) → bit_xor bits b / 2 ^ q % 2 ≡ bit_xor (bits / 2 ^ q % 2) (b / 2 ^ q % 2)
turned bits b q = ap (λ n. n % 2) (xor_shr bits b q) ∙ xor_mod (bits / 2 ^ q) (b / 2 ^ q) 1

pub low : (bits p : ℕ) → bits < 256 → named bits p ≡ true → p < 8
low bits p byte e = ⊎_elim (λ lt. lt) (λ le. absurd (both_ways (named bits p) (none_above bits p byte le) e)) (cases_lt p 8)

-- its bit turned off is its bit taken away
pub turned_away : (bits p b : ℕ) → bits < 256 → named bits p ≡ true → b ≡ (1 * 2 ^ p) % 256 → bit_xor bits b ≡ without p bits
turned_away bits p b byte e is =
    let bit : b ≡ 2 ^ p = is ∙ one_shl p 8 (low bits p byte e) in
    let there : bit_and bits (2 ^ p) ≡ 2 ^ p = and_pow bits p ∙ ap (λ n. n * 2 ^ p) (eqb-true (bits / 2 ^ p % 2) 1 e) ∙ omega arith in
    let sum = xor_add_and bits (2 ^ p) in
    ap (bit_xor bits) bit ∙ omega (arith, sum, there, cond-true (named bits p) (bits - 2 ^ p) bits e)

and_true : (b : Bool) → b ≡ (b && true)
and_true true = refl
and_true false = refl

and_false : (b : Bool) → false ≡ (b && false)
and_false true = refl
and_false false = refl

-- without its bit, a mask names the others
pub turned_off : (bits p b : ℕ) → bits < 256 → named bits p ≡ true → b ≡ (1 * 2 ^ p) % 256 → (q : ℕ) → named (bit_xor bits b) q ≡ (named bits q && not (eqb q p))
turned_off bits p b byte e is q =
    let bit : b ≡ 2 ^ p = is ∙ one_shl p 8 (low bits p byte e) in
    ⊎_elim
    (λ (same : q ≡ p).
    ap (named (bit_xor bits b)) same
    ∙ ap (λ n. eqb (bit_xor bits n / 2 ^ p % 2) 1) bit
    ∙ ap (λ n. eqb n 1) (turned bits (2 ^ p) p ∙ ap (λ n. bit_xor n (2 ^ p / 2 ^ p % 2)) (eqb-true (bits / 2 ^ p % 2) 1 e) ∙ ap (λ n. bit_xor 1 (n % 2)) (div_self (pow_pos p)))
    ∙ and_false (named bits q)
    ∙ ap (λ x. named bits q && not x) (sym (eq-eqb q p same)))
    (λ (ne : q ≡ p → ⊥).
    ap (λ n. eqb (bit_xor bits n / 2 ^ q % 2) 1) bit
    ∙ ap (λ n. eqb n 1) (turned bits (2 ^ p) q ∙ ap (bit_xor (bits / 2 ^ q % 2)) (other_bit p q ne) ∙ xor_zero_r (bits / 2 ^ q % 2))
    ∙ and_true (named bits q)
    ∙ ap (λ x. named bits q && not x) (sym (ne_eqb q p ne)))
    (cases_eq q p)
