-- What the last entry of a rising list tells of all, and where an entry goes that is before none. Assumes nothing.
use Rattle.std.proofs.Common.{◌≡◌, ℕ, suc, ◌+◌, ◌-◌, ◌<◌, ◌≤◌, Bool, true, false, not, List, [], ◌∷◌, ◌++◌, length, get_or, take, set, refl, sym, ap, ◌∙◌, subst, ⊎_elim, arith}
use Rattle.std.proofs.lemmas.Bool.{both_ways, cases_Bool, and_parts, and_from, not-true, not_from_false}
use Rattle.std.proofs.lemmas.List.{take_more, take_more_set}
use Rattle.ordered.specs.Orders.{Total, all_pass, pairs_pass, Rising, placed, place_of}
use Rattle.ordered.proofs.Rises.{rising_placed}

module _ {X : Type 0} where
  one_passes : (test : X → Bool) (ys zs : List X) (e : X) → all_pass test (ys ++ e ∷ zs) ≡ true → test e ≡ true
  one_passes test [] zs e h = (and_parts (test e) (all_pass test zs) h).0
  one_passes test (y ∷ ys) zs e h = one_passes test ys zs e (and_parts (test y) (all_pass test (ys ++ e ∷ zs)) h).1

  -- where each passes the test with every later one, those in front of an entry pass it with that
  pub front_passes : (test : X → X → Bool) (ys zs : List X) (e : X) → pairs_pass test (ys ++ e ∷ zs) ≡ true → all_pass (λ y. test y e) ys ≡ true
  front_passes test [] zs e h = refl
  front_passes test (y ∷ ys) zs e h =
      let both = and_parts (all_pass (test y) (ys ++ e ∷ zs)) (pairs_pass test (ys ++ e ∷ zs)) h in
      and_from (test y e) (all_pass (λ y. test y e) ys) (one_passes (test y) ys zs e both.0) (front_passes test ys zs e both.1)

module _ {X : Type 0} (before : X → X → Bool) (x : X) where
  -- x is before none of them
  abbrev pub Behind : List X → Type 0
  Behind xs = all_pass (λ y. not (before x y)) xs ≡ true

  pub placed_behind : (xs : List X) → Behind xs → placed before x xs ≡ xs ++ x ∷ []
  placed_behind [] h = refl
  placed_behind (y ∷ ys) h =
      let both = and_parts (not (before x y)) (all_pass (λ z. not (before x z)) ys) h in
      rw (not-true (before x y) both.0) (ap (λ zs. y ∷ zs) (placed_behind ys both.1))

  pub place_behind : (xs : List X) → Behind xs → place_of before x xs ≡ length xs
  place_behind [] h = refl
  place_behind (y ∷ ys) h =
      let both = and_parts (not (before x y)) (all_pass (λ z. not (before x z)) ys) h in
      rw (not-true (before x y) both.0) (ap suc (place_behind ys both.1))

module _ {X : Type 0} {key : X → List ℕ} {before : X → X → Bool} (total : Total key before) (x : X) where
  -- an entry that is not above another is not above what that one is not above
  not_before : (y e : X) → before e y ≡ false → before x e ≡ false → before x y ≡ false
  not_before y e ey xe =
      ⊎_elim
      (λ (xy : before x y ≡ true).
      ⊎_elim
      (λ (ye : before y e ≡ true). absurd (both_ways (before x e) xe (total.chain x y e xy ye)))
      (⊎_elim
      (λ (h : before e y ≡ true). absurd (both_ways (before e y) ey h))
      (λ (k : key y ≡ key e).
      ⊎_elim
      (λ (h : before x e ≡ true). absurd (both_ways (before x e) xe h))
      (⊎_elim
      (λ (ex : before e x ≡ true). absurd (both_ways (before e y) ey (total.chain e x y ex xy)))
      (λ (k' : key x ≡ key e). total.not_equal x y (k' ∙ sym k)))
      (total.one x e)))
      (total.one y e))
      (λ (xy : before x y ≡ false). xy)
      (cases_Bool (before x y))

  -- a rising list whose last entry x is not before
  pub behind_all : (ys : List X) (e : X) → Rising before (ys ++ e ∷ []) → before x e ≡ false → Behind before x (ys ++ e ∷ [])
  behind_all [] e up h = and_from (not (before x e)) true (not_from_false (before x e) h) refl
  behind_all (y ∷ ys) e up h =
      let both = and_parts (all_pass (λ z. not (before z y)) (ys ++ e ∷ [])) (pairs_pass (λ u v. not (before v u)) (ys ++ e ∷ [])) up in
      let ey = not-true (before e y) (one_passes (λ z. not (before z y)) ys [] e both.0) in
      and_from (not (before x y)) (all_pass (λ z. not (before x z)) (ys ++ e ∷ [])) (not_from_false (before x y) (not_before y e ey h)) (behind_all ys e both.1 h)

  -- of the first len entries of memory
  pub behind_taken : (xs : List X) (len : ℕ) (d : X) → 0 < len → len ≤ length xs → Rising before (take len xs) → before x (get_or xs (len - 1) d) ≡ false → Behind before x (take len xs)
  behind_taken xs len d some le up h =
      let n : len - 1 + 1 ≡ len = omega (arith, some) in
      let more : take len xs ≡ take (len - 1) xs ++ get_or xs (len - 1) d ∷ [] = ap (λ i. take i xs) (sym n) ∙ take_more xs (len - 1) d (omega (arith, some, le)) in
      subst (Behind before x) (sym more) (behind_all (take (len - 1) xs) (get_or xs (len - 1) d) (subst (Rising before) more up) h)

  -- x written behind the first len entries of memory
  module _ (xs : List X) (len : ℕ) (room : len < length xs) (behind : Behind before x (take len xs)) where
    pub appended : take (len + 1) (set xs len x) ≡ placed before x (take len xs)
    appended = take_more_set xs len x room ∙ sym (placed_behind before x (take len xs) behind)

    pub appended_rises : Rising before (take len xs) → Rising before (take (len + 1) (set xs len x))
    appended_rises up = subst (Rising before) (sym appended) (rising_placed total x (take len xs) up)
