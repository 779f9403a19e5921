-- How entries compare, what a total order is, a list that rises by it, and where a new entry goes. Assumes nothing.
use Rattle.std.specs.Prelude.{◌≡◌, ℕ, suc, ◌<◌, ◌≤◌, Bool, true, false, cond, not, ◌&&◌, ◌⊎◌, List, [], ◌∷◌, length, ◌==◌, ◌≢◌, nat_lt, slice_index_or}
use Rattle.std.specs.List.{AllByRecursion}

-- by one number of the entry
abbrev pub by : {X : Type 0} → (X → ℕ) → X → X → Bool
by f x y = nat_lt (f x) (f y)

-- by one number of the entry and, where that is equal, by the rest
abbrev pub by_then : {X : Type 0} → (X → ℕ) → (X → X → Bool) → X → X → Bool
by_then f rest x y = cond (nat_lt (f x) (f y)) true (cond (f x == f y) (rest x y) false)

-- of two keys exactly one of before, after and equal is true, and before is transitive
pub record Total {X : Type 0} (key : X → List ℕ) (before : X → X → Bool) : Type 0 where
  pub one : (x y : X) → (before x y ≡ true) ⊎ ((before y x ≡ true) ⊎ (key x ≡ key y))
  pub not_after : (x y : X) → before x y ≡ true → before y x ≡ false
  pub not_equal : (x y : X) → key x ≡ key y → before x y ≡ false
  pub chain : (x y z : X) → before x y ≡ true → before y z ≡ true → before x z ≡ true

-- each entry passes the test
abbrev pub all_pass : {X : Type 0} → (X → Bool) → List X → Bool
all_pass test [] = true
all_pass test (x ∷ xs) = test x && all_pass test xs

-- each entry passes the test with every later one
abbrev pub pairs_pass : {X : Type 0} → (X → X → Bool) → List X → Bool
pairs_pass test [] = true
pairs_pass test (x ∷ xs) = all_pass (test x) xs && pairs_pass test xs

-- no entry is before x
abbrev pub Least : {X : Type 0} → (X → X → Bool) → X → List X → Type 0
Least before x xs = all_pass (λ y. not (before y x)) xs ≡ true

-- no later entry is before an earlier one
abbrev pub Rising : {X : Type 0} → (X → X → Bool) → List X → Type 0
Rising before xs = pairs_pass (λ x y. not (before y x)) xs ≡ true

-- each entry is before every later one, so no key comes twice
abbrev pub Strict : {X : Type 0} → (X → X → Bool) → List X → Type 0
Strict before xs = pairs_pass before xs ≡ true

-- no entry has the key of x
abbrev pub Fresh : {X : Type 0} → (X → List ℕ) → X → List X → Type 0
Fresh key x xs = AllByRecursion (λ y. key x ≢ key y) xs

-- x in front of the first entry that it is before, or behind them all
abbrev pub placed : {X : Type 0} → (X → X → Bool) → X → List X → List X
placed before x [] = x ∷ []
placed before x (y ∷ ys) = cond (before x y) (x ∷ y ∷ ys) (y ∷ placed before x ys)

-- how many entries stand in front of x there
abbrev pub place_of : {X : Type 0} → (X → X → Bool) → X → List X → ℕ
place_of before x [] = 0
place_of before x (y ∷ ys) = cond (before x y) 0 (suc (place_of before x ys))

-- i is that number: x is before none of the first i entries, and before the next if there is one
pub record Place {X : Type 0} (before : X → X → Bool) (x : X) (xs : List X) (i : ℕ) : Type 0 where
  pub within : i ≤ length xs
  pub behind : (k : ℕ) (d : X) → k < i → before x (slice_index_or xs k d) ≡ false
  pub front : (d : X) → i < length xs → before x (slice_index_or xs i d) ≡ true
