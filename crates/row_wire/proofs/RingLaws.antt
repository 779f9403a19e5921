-- What a ring holds after a push and a pop. Assumes nothing.
use Rattle.std.proofs.Common.{◌≡◌, ℕ, zero, suc, ◌+◌, ◌-◌, ◌%◌, ◌<◌, ◌≤◌, ◌⊎◌, ◌≢◌, List, [], ◌∷◌, ◌++◌, length, get_or, drop, set, inl, inr, sym, ap, ◌∙◌, ⊎_elim, mod-eq_of_lt, arith}
use native.Mathlib.Nat.{mod-eq-sub-mod, mod-add-mod}
use Rattle.std.proofs.lemmas.List.{length-take, length-drop, length-append, length-set, length_push, get_or-take, get_or-drop, get_or_append_left, get_or-append_right, get_or-set_same, get_or-set_other, get_or_push, get_or_default, same_lists}
use Rattle.std.proofs.lemmas.Bool.{cases_lt, cases_eq}
use Rattle.row_wire.specs.Rings.{ringed}

-- a place less than two rounds on goes round once at most
round_once : (n j : ℕ) → j < n + n → ((j < n) × (j % n ≡ j)) ⊎ ((n ≤ j) × (j % n ≡ j - n))
round_once n j below = elim (cases_lt j n) [
  | inl low ↦ inl (low, mod-eq_of_lt low)
  | inr high ↦ inr (high, mod-eq-sub-mod high ∙ mod-eq_of_lt (omega arith))
]

module _ {A : Type 0} (room h n : ℕ) (xs : List A) (l : length xs ≡ room) (a : h < room) (b : n ≤ room) where
  pub length_ringed : length (ringed h n xs) ≡ n
  length_ringed = simp (length-take, length-drop, length-append) (omega arith)

  -- the item at k is in the slot that comes k after the head, going round
  get_or_ringed : (k : ℕ) (d : A) → k < n → get_or (ringed h n xs) k d ≡ get_or xs ((h + k) % room) d
  get_or_ringed k d c =
      get_or-take n (drop h (xs ++ xs)) k d c ∙ get_or-drop h (xs ++ xs) k d ∙
      elim (round_once room (h + k) (omega arith)) [
        | inl w ↦ get_or_append_left xs xs d (h + k) (omega arith) ∙ ap (λ i. get_or xs i d) (sym w.1)
        | inr w ↦ get_or-append_right xs xs room (h + k) d l w.0 ∙ ap (λ i. get_or xs i d) (sym w.1)
      ]

-- two items are in two slots
apart : (room h n k : ℕ) → h < room → n < room → k < n → (h + k) % room ≢ (h + n) % room
apart room h n k a b c e = elim (round_once room (h + k) (omega arith)) [
  | inl v ↦ elim (round_once room (h + n) (omega arith)) [ inl w ↦ omega arith | inr w ↦ omega arith ]
  | inr v ↦ elim (round_once room (h + n) (omega arith)) [ inl w ↦ omega arith | inr w ↦ omega arith ]
]

module _ {A : Type 0} (room h n : ℕ) (xs : List A) (l : length xs ≡ room) (a : h < room) where
  -- a write behind the last item adds it at the end
  pub ringed_push : (x : A) → n < room → ringed h (n + 1) (set xs ((h + n) % room) x) ≡ ringed h n xs ++ x ∷ []
  ringed_push x b =
      let i = (h + n) % room in
      let ys : List A = set xs i x in
      let ly : length ys ≡ room = length-set xs i x ∙ l in
      let ln = length_ringed room h n xs l a (omega arith) in
      let ln1 = length_ringed room h (n + 1) ys ly a (omega arith) in
      same_lists _ _ (ln1 ∙ sym (length_push (ringed h n xs) x ∙ ap (λ m. m + 1) ln)) (λ k d lt.
      get_or_ringed room h (n + 1) ys ly a (omega arith) k d (omega (arith, ln1)) ∙
      ⊎_elim
      (λ (e : k ≡ n). ap (λ j. get_or ys ((h + j) % room) d) e ∙ get_or-set_same xs i x d (omega arith) ∙ sym (get_or_push (ringed h n xs) x d k (ln ∙ sym e)))
      (λ (ne : k ≡ n → ⊥).
      let ltk : k < n = omega (arith, ln1) in
      get_or-set_other xs i ((h + k) % room) x d (apart room h n k a b ltk) ∙ sym (get_or_append_left (ringed h n xs) (x ∷ []) d k (omega (arith, ln)) ∙ get_or_ringed room h n xs l a (omega arith) k d ltk))
      (cases_eq k n))

  -- the oldest item, then what is left from the next slot on
  pub ringed_pop : (d : A) → n ≤ room → 0 < n → ringed h n xs ≡ get_or xs h d ∷ ringed ((h + 1) % room) (n - 1) xs
  ringed_pop d b c =
      let h1 : (h + 1) % room < room = omega arith in
      let ln = length_ringed room h n xs l a b in
      let ln1 = length_ringed room ((h + 1) % room) (n - 1) xs l h1 (omega arith) in
      same_lists _ _ (omega (arith, ln, ln1)) (λ k e lt.
      let ltn : k < n = omega (arith, ln) in
      get_or_ringed room h n xs l a b k e ltn ∙ item h1 k e ltn)
    where
      item : (h + 1) % room < room → (k : ℕ) (e : A) → k < n → get_or xs ((h + k) % room) e ≡ get_or (get_or xs h d ∷ ringed ((h + 1) % room) (n - 1) xs) k e
      item h1 zero e lt = ap (λ i. get_or xs (i % room) e) (omega arith) ∙ ap (λ i. get_or xs i e) (mod-eq_of_lt a) ∙ get_or_default xs h e d (omega arith)
      item h1 (suc k) e lt =
          ap (λ i. get_or xs i e) (sym (mod-add-mod (h + 1) room k ∙ ap (λ i. i % room) (omega arith))) ∙
          sym (get_or_ringed room ((h + 1) % room) (n - 1) xs l h1 (omega arith) k e (omega arith))
