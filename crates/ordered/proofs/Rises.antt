-- What a total order gives of a list that rises by it. Assumes nothing.
use Rattle.std.proofs.Common.{◌≡◌, ℕ, zero, suc, ◌+◌, ◌≤◌, Bool, true, false, not, List, [], ◌∷◌, length, refl, ap, ⊎_elim, arith}
use Rattle.std.specs.List.{insert, AllByRecursion}
use Rattle.std.proofs.lemmas.Bool.{both_ways, cases_Bool, and_parts, and_from, not-true, not_from_false, cond_both}
use Rattle.ordered.specs.Orders.{Total, all_pass, pairs_pass, Rising, Strict, Fresh, placed, place_of, Place}

module _ {X : Type 0} (before : X → X → Bool) (x : X) where
  pub place_of_le : (xs : List X) → place_of before x xs ≤ length xs
  place_of_le [] = omega arith
  place_of_le (y ∷ ys) = cond_both (before x y) 0 (suc (place_of before x ys)) (λ n. n ≤ suc (length ys)) (λ e. omega arith) (λ e. omega (arith, place_of_le ys))

  pub place_of_is : (xs : List X) (i : ℕ) → Place before x xs i → i ≡ place_of before x xs
  place_of_is [] i p = omega (arith, p.within)
  place_of_is (y ∷ ys) zero p = rw (p.front y (omega arith))
  place_of_is (y ∷ ys) (suc i) p =
      rw (p.behind 0 y (omega arith))
      (ap suc (place_of_is ys i (record { within = omega (arith, p.within); behind = λ k d l. p.behind (suc k) d (omega arith); front = λ d l. p.front d (omega arith) })))

  -- the entry stands at its place, between those in front of it and those behind
  pub placed_is : (xs : List X) → placed before x xs ≡ insert xs (place_of before x xs) x
  placed_is [] = refl
  placed_is (y ∷ ys) = ⊎_elim (λ (e : before x y ≡ true). rw e) (λ (e : before x y ≡ false). rw e (ap (λ zs. y ∷ zs) (placed_is ys))) (cases_Bool (before x y))

  pub length_placed : (xs : List X) → length (placed before x xs) ≡ length xs + 1
  length_placed [] = omega arith
  length_placed (y ∷ ys) = ⊎_elim (λ (e : before x y ≡ true). rw e (omega arith)) (λ (e : before x y ≡ false). rw e (omega (arith, length_placed ys))) (cases_Bool (before x y))

  pub all_placed : (test : X → Bool) (xs : List X) → all_pass test xs ≡ true → test x ≡ true → all_pass test (placed before x xs) ≡ true
  all_placed test [] h t = and_from (test x) true t refl
  all_placed test (y ∷ ys) h t =
      let both = and_parts (test y) (all_pass test ys) h in
      cond_both (before x y) (x ∷ y ∷ ys) (y ∷ placed before x ys) (λ zs. all_pass test zs ≡ true) (λ e. and_from (test x) (all_pass test (y ∷ ys)) t h) (λ e. and_from (test y) (all_pass test (placed before x ys)) both.0 (all_placed test ys both.1 t))

module _ {X : Type 0} where
  -- a test that each entry passes gives another that each passes
  all_weaker : (p q : X → Bool) → ((x : X) → p x ≡ true → q x ≡ true) → (xs : List X) → all_pass p xs ≡ true → all_pass q xs ≡ true
  all_weaker p q w [] h = refl
  all_weaker p q w (x ∷ xs) h = let both = and_parts (p x) (all_pass p xs) h in and_from (q x) (all_pass q xs) (w x both.0) (all_weaker p q w xs both.1)

  -- pairs that pass still pass with x put in, where x passes with what it is put in front of and what it is put behind
  pub pairs_placed : (before test : X → X → Bool) (x : X) (xs : List X) → pairs_pass test xs ≡ true → ((y : X) → before x y ≡ true → test x y ≡ true) → ((y z : X) → before x y ≡ true → test y z ≡ true → test x z ≡ true) → AllByRecursion (λ y. before x y ≡ false → test y x ≡ true) xs → pairs_pass test (placed before x xs) ≡ true
  pairs_placed before test x [] up front over behind = refl
  pairs_placed before test x (y ∷ ys) up front over behind =
      let both = and_parts (all_pass (test y) ys) (pairs_pass test ys) up in
      cond_both (before x y) (x ∷ y ∷ ys) (y ∷ placed before x ys) (λ zs. pairs_pass test zs ≡ true)
      (λ e. and_from (all_pass (test x) (y ∷ ys)) (pairs_pass test (y ∷ ys)) (and_from (test x y) (all_pass (test x) ys) (front y e) (all_weaker (test y) (test x) (λ z. over y z e) ys both.0)) up)
      (λ e. and_from (all_pass (test y) (placed before x ys)) (pairs_pass test (placed before x ys)) (all_placed before x (test y) ys both.0 (behind.0 e)) (pairs_placed before test x ys both.1 front over behind.1))

  all_of : (P : X → Type 0) → ((x : X) → P x) → (xs : List X) → AllByRecursion P xs
  all_of P h [] = tt
  all_of P h (x ∷ xs) = (h x, all_of P h xs)

  all_from : (P Q : X → Type 0) → ((x : X) → P x → Q x) → (xs : List X) → AllByRecursion P xs → AllByRecursion Q xs
  all_from P Q w [] h = tt
  all_from P Q w (x ∷ xs) h = (w x h.0, all_from P Q w xs h.1)

module _ {X : Type 0} {key : X → List ℕ} {before : X → X → Bool} (total : Total key before) (x : X) (xs : List X) where
  pub rising_placed : Rising before xs → Rising before (placed before x xs)
  rising_placed up =
      pairs_placed before (λ u v. not (before v u)) x xs up
      (λ y e. not_from_false (before y x) (total.not_after x y e))
      (λ y z e h. ⊎_elim (λ (zx : before z x ≡ true). absurd (both_ways (before z y) (not-true (before z y) h) (total.chain z x y zx e))) (λ (zx : before z x ≡ false). not_from_false (before z x) zx) (cases_Bool (before z x)))
      (all_of (λ y. before x y ≡ false → not (before x y) ≡ true) (λ y e. not_from_false (before x y) e) xs)

  pub strict_placed : Strict before xs → Fresh key x xs → Strict before (placed before x xs)
  strict_placed up fresh =
      pairs_placed before before x xs up
      (λ y e. e)
      (λ y z e h. total.chain x y z e h)
      (all_from (λ y. key x ≡ key y → ⊥) (λ y. before x y ≡ false → before y x ≡ true) (λ y other e. ⊎_elim (λ (h : before x y ≡ true). absurd (both_ways (before x y) e h)) (⊎_elim (λ h. h) (λ k. absurd (other k))) (total.one x y)) xs fresh)

module _ {X : Type 0} {key : X → List ℕ} {before : X → X → Bool} (total : Total key before) where
  -- a list whose keys are all different rises
  pub rising_from_strict : (ys : List X) → Strict before ys → Rising before ys
  rising_from_strict [] up = refl
  rising_from_strict (y ∷ ys) up =
      let both = and_parts (all_pass (before y) ys) (pairs_pass before ys) up in
      and_from (all_pass (λ z. not (before z y)) ys) (pairs_pass (λ u v. not (before v u)) ys) (all_weaker (before y) (λ z. not (before z y)) (λ z h. not_from_false (before z y) (total.not_after y z h)) ys both.0) (rising_from_strict ys both.1)
