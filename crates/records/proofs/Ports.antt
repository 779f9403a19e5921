-- What `any` and `all` over the numbers below n answer, said of the numbers. Assumes nothing.
use Rattle.std.proofs.Common.{◌≡◌, ℕ, ◌<◌, Bool, true, false, length, get_or, subst, arith, MatchBool}
use Rattle.std.proofs.lemmas.List.FromFn.{get_or-range_with_len, length-range_with_len}
use Rattle.std.specs.List.{range_with_len, HoldsAt, AllWithin}

-- the number at a place of a range is that place
at_place : (n i : ℕ) (P : ℕ → Type 0) → i < n → HoldsAt P (range_with_len 0 n) i → P i
at_place n i P lt h =
    let is : get_or (range_with_len 0 n) i 0 ≡ i = omega (arith, get_or-range_with_len 0 n i 0 lt) in
    subst P is (h 0)

module _ (n : ℕ) (Yes No : ℕ → Type 0) where
  some_below : (k : ℕ) × (k < length (range_with_len 0 n)) × HoldsAt Yes (range_with_len 0 n) k → (x : ℕ) × (x < n) × Yes x
  some_below (k, lt, h) = let below : k < n = omega (arith, length-range_with_len 0 n) in (k, below, at_place n k Yes below h)

  each_below : AllWithin No (range_with_len 0 n) 0 (length (range_with_len 0 n)) → (x : ℕ) → x < n → No x
  each_below h x lt = at_place n x No lt (λ d. h x d (omega arith) (omega (arith, length-range_with_len 0 n)))

  pub any_below : (r : Bool) → MatchBool r ((k : ℕ) × (k < length (range_with_len 0 n)) × HoldsAt Yes (range_with_len 0 n) k) (AllWithin No (range_with_len 0 n) 0 (length (range_with_len 0 n))) → MatchBool r ((x : ℕ) × (x < n) × Yes x) ((x : ℕ) → x < n → No x)
  any_below true h = some_below h
  any_below false h = each_below h

pub all_below : (n : ℕ) (Yes No : ℕ → Type 0) (r : Bool) → MatchBool r (AllWithin Yes (range_with_len 0 n) 0 (length (range_with_len 0 n))) ((k : ℕ) × (k < length (range_with_len 0 n)) × HoldsAt No (range_with_len 0 n) k) → MatchBool r ((x : ℕ) → x < n → Yes x) ((x : ℕ) × (x < n) × No x)
all_below n Yes No true h = λ x lt. at_place n x Yes lt (λ d. h x d (omega arith) (omega (arith, length-range_with_len 0 n)))
all_below n Yes No false (k, lt, h) = let below : k < n = omega (arith, length-range_with_len 0 n) in (k, below, at_place n k No below h)
