-- Lists that rise by a number of their elements, members, filters. Assumes nothing.
use Rattle.std.proofs.Common.{◌≡◌, ℕ, ◌<◌, ◌≤◌, Bool, true, false, cond, not, ◌&&◌, ltb, leb, ◌⊎◌, List, [], ◌∷◌, ◌++◌, map, length, take, filter, sym, refl, ap, ◌∙◌, subst, inl, inr, append-nil, arith}
use mathlib.Core.List.Memᴰ
use mathlib.Core.List.{Memᴰ}
use Rattle.std.specs.List.{AllByRecursion}
use Rattle.std.proofs.lemmas.List.{take_at}
use Rattle.std.proofs.ByRecursion.{all_kept_by, kept_by_passes, All-weaker, All-push}
use Rattle.std.proofs.lemmas.Bool.{cond_both, cond-true, cond-false, ltb-true, ltb-false, leb-false, le-ltb, lt-ltb, lt-leb}
use Rattle.ordered.specs.Orders.{placed}
use Rattle.model.specs.Law.{In}

-- a value that an equation gives by a test
pub by_cond : {A : Type 0} (P : A → Type 0) (z : A) (b : Bool) (x y : A) → z ≡ cond b x y → (b ≡ true → P x) → (b ≡ false → P y) → P z
by_cond P z b x y e f g = subst P (sym e) (cond_both b x y P f g)

-- what is read of a value by a test is that of either
pub cond_ap : {A B : Type 0} (f : A → B) (b : Bool) (x y : A) → f (cond b x y) ≡ cond b (f x) (f y)
cond_ap f true x y = refl
cond_ap f false x y = refl

-- MEMBERS

pub all_mem : {X : Type 0} (P : X → Type 0) {x : X} (xs : List X) → AllByRecursion P xs → In x xs → P x
all_mem P {x} [] h m = elim m [ ]
all_mem P {x} (y ∷ ys) h (Memᴰ.head e) = subst P (sym e) h.0
all_mem P (y ∷ ys) h (Memᴰ.tail m) = all_mem P ys h.1 m

pub all_from : {X : Type 0} (P : X → Type 0) (xs : List X) → ((x : X) → In x xs → P x) → AllByRecursion P xs
all_from P [] h = tt
all_from P (x ∷ xs) h = (h x (Memᴰ.head refl), all_from P xs (λ y d. h y (Memᴰ.tail d)))

pub push_cases : {X : Type 0} {x : X} (xs : List X) (y : X) → In x (xs ++ (y ∷ [])) → In x xs ⊎ (x ≡ y)
push_cases {X} {x} xs y d = step (Memᴰ.append_cases xs d)
  where
    step : In x xs ⊎ In x (y ∷ []) → In x xs ⊎ (x ≡ y)
    step (inl a) = inl a
    step (inr a) = inr (Memᴰ.eq_of_singleton a)

pub nothing : {X : Type 0} (xs : List X) (x : X) → xs ≡ [] → In x xs → ⊥
nothing xs x e d = elim (subst (λ l. In x l) e d) [ ]

-- two fronts of one list that are as long are one
pub same_front : {X : Type 0} (xs ys us vs : List X) → xs ++ us ≡ ys ++ vs → length xs ≡ length ys → xs ≡ ys
same_front xs ys us vs e l = sym (take_at xs us (length ys) l) ∙ ap (take (length ys)) e ∙ take_at ys vs (length ys) refl

-- FILTERS

module _ {X : Type 0} (t : X → Bool) where
  pub mem_kept : {x : X} (xs : List X) → t x ≡ true → In x xs → In x (filter t xs)
  mem_kept {x} [] is d = elim d [ ]
  mem_kept {x} (y ∷ ys) is (Memᴰ.head e) = rw (← e, is) (Memᴰ.head refl)
  mem_kept {x} (y ∷ ys) is (Memᴰ.tail d) = cond_both (t y) (y ∷ filter t ys) (filter t ys) (λ l. In x l) (λ _. Memᴰ.tail (mem_kept ys is d)) (λ _. mem_kept ys is d)

  pub kept_mem : {x : X} (xs : List X) → In x (filter t xs) → In x xs
  kept_mem {x} [] d = d
  kept_mem {x} (y ∷ ys) d = cond_both (t y) (y ∷ filter t ys) (filter t ys) (λ l. In x l → In x (y ∷ ys)) (λ _. front (kept_mem ys)) (λ _ a. Memᴰ.tail (kept_mem ys a)) d
    where
      front : (In x (filter t ys) → In x ys) → In x (y ∷ filter t ys) → In x (y ∷ ys)
      front f (Memᴰ.head e) = Memᴰ.head e
      front f (Memᴰ.tail m) = Memᴰ.tail (f m)

  pub kept_passes : {x : X} (xs : List X) → In x (filter t xs) → t x ≡ true
  kept_passes {x} xs d = all_mem (λ y. t y ≡ true) (filter t xs) (kept_by_passes t xs) d

  pub kept_all : (xs : List X) → ((x : X) → In x xs → t x ≡ true) → filter t xs ≡ xs
  kept_all [] h = refl
  kept_all (x ∷ xs) h = cond-true (t x) (x ∷ filter t xs) (filter t xs) (h x (Memᴰ.head refl)) ∙ ap (λ l. x ∷ l) (kept_all xs (λ y d. h y (Memᴰ.tail d)))

  pub kept_none : (xs : List X) → ((x : X) → In x xs → t x ≡ false) → filter t xs ≡ []
  kept_none [] h = refl
  kept_none (x ∷ xs) h = cond-false (t x) (x ∷ filter t xs) (filter t xs) (h x (Memᴰ.head refl)) ∙ kept_none xs (λ y d. h y (Memᴰ.tail d))

  pub kept_same : (u : X → Bool) (xs : List X) → ((x : X) → In x xs → t x ≡ u x) → filter t xs ≡ filter u xs
  kept_same u [] h = refl
  kept_same u (x ∷ xs) h = rw (h x (Memᴰ.head refl)) (ap (λ l. cond (u x) (x ∷ l) l) (kept_same u xs (λ y d. h y (Memᴰ.tail d))))

  pub kept_twice : (u : X → Bool) (xs : List X) → filter (λ x. t x && u x) xs ≡ filter u (filter t xs)
  kept_twice u [] = refl
  kept_twice u (x ∷ xs) = step (t x) (kept_twice u xs)
    where
      step : (b : Bool) → filter (λ x. t x && u x) xs ≡ filter u (filter t xs) → cond (b && u x) (x ∷ filter (λ x. t x && u x) xs) (filter (λ x. t x && u x) xs) ≡ filter u (cond b (x ∷ filter t xs) (filter t xs))
      step true ih = ap (λ l. cond (u x) (x ∷ l) l) ih
      step false ih = ih

  pub kept_swap : (u : X → Bool) (xs : List X) → filter t (filter u xs) ≡ filter u (filter t xs)
  kept_swap u [] = refl
  kept_swap u (x ∷ xs) = step (t x) (u x) refl refl (kept_swap u xs)
    where
      step : (a b : Bool) → t x ≡ a → u x ≡ b → filter t (filter u xs) ≡ filter u (filter t xs) → filter t (cond b (x ∷ filter u xs) (filter u xs)) ≡ filter u (cond a (x ∷ filter t xs) (filter t xs))
      step true true e f ih = rw (e, f) (ap (λ l. x ∷ l) ih)
      step true false e f ih = rw f ih
      step false true e f ih = rw e ih
      step false false e f ih = ih

-- what a filter keeps of what a map gives
pub kept_map : {X Y : Type 0} (f : X → Y) (t : Y → Bool) (xs : List X) → filter t (map f xs) ≡ map f (filter (λ x. t (f x)) xs)
kept_map f t [] = refl
kept_map f t (x ∷ xs) = step (t (f x)) (kept_map f t xs)
  where
    step : (b : Bool) → filter t (map f xs) ≡ map f (filter (λ x. t (f x)) xs) → cond b (f x ∷ filter t (map f xs)) (filter t (map f xs)) ≡ map f (cond b (x ∷ filter (λ x. t (f x)) xs) (filter (λ x. t (f x)) xs))
    step true ih = ap (λ l. f x ∷ l) ih
    step false ih = ih

-- LISTS THAT RISE BY A NUMBER

module _ {X : Type 0} (key : X → ℕ) where
  abbrev pub Sorted : List X → Type 0
  Sorted [] = Unit {0}
  Sorted (x ∷ xs) = AllByRecursion (λ y. key x < key y) xs × Sorted xs

  -- x among xs, by the number
  abbrev pub insert : X → List X → List X
  insert x [] = x ∷ []
  insert x (y ∷ ys) = cond (ltb (key x) (key y)) (x ∷ y ∷ ys) (y ∷ insert x ys)

  pub sorted_tail : (xs ys : List X) → Sorted (xs ++ ys) → Sorted ys
  sorted_tail [] ys h = h
  sorted_tail (x ∷ xs) ys h = sorted_tail xs ys h.1

  pub sorted_before : (xs : List X) (m : X) (ys : List X) → Sorted (xs ++ (m ∷ ys)) → (b : X) → In b xs → key b < key m
  sorted_before [] m ys h b d = elim d [ ]
  sorted_before (x ∷ xs) m ys h b (Memᴰ.head e) = rw e (all_mem (λ y. key x < key y) (xs ++ (m ∷ ys)) h.0 (middle xs))
    where
      middle : (l : List X) → In m (l ++ (m ∷ ys))
      middle [] = Memᴰ.head refl
      middle (z ∷ zs) = Memᴰ.tail (middle zs)
  sorted_before (x ∷ xs) m ys h b (Memᴰ.tail d) = sorted_before xs m ys h.1 b d

  -- a least member of a sorted list is its first
  pub least_first : (m : X) (y : X) (ys : List X) → Sorted (y ∷ ys) → In m (y ∷ ys) → key m ≤ key y → m ≡ y
  least_first m y ys h (Memᴰ.head e) low = e
  least_first m y ys h (Memᴰ.tail d) low = let k : key y < key m = all_mem (λ z. key y < key z) ys h.0 d in absurd (omega arith)

  pub sorted_first : {x : X} (m : X) (ys : List X) → Sorted (m ∷ ys) → In x (m ∷ ys) → key m ≤ key x
  sorted_first m ys h (Memᴰ.head e) = rw e (omega arith)
  sorted_first {x} m ys h (Memᴰ.tail d) = let a : key m < key x = all_mem (λ y. key m < key y) ys h.0 d in omega arith

  pub sorted_kept : (t : X → Bool) (xs : List X) → Sorted xs → Sorted (filter t xs)
  sorted_kept t [] h = tt
  sorted_kept t (x ∷ xs) h = cond_both (t x) (x ∷ filter t xs) (filter t xs) Sorted (λ _. (all_kept_by t (λ y. key x < key y) xs h.0, sorted_kept t xs h.1)) (λ _. sorted_kept t xs h.1)

  pub sorted_push : (xs : List X) (m : X) → Sorted xs → ((x : X) → In x xs → key x < key m) → Sorted (xs ++ (m ∷ []))
  sorted_push [] m h below = (tt, tt)
  sorted_push (x ∷ xs) m h below = (All-push (λ y. key x < key y) xs m h.0 (below x (Memᴰ.head refl)), sorted_push xs m h.1 (λ y d. below y (Memᴰ.tail d)))

  pub insert_cases : {x : X} (m : X) (xs : List X) → In x (insert m xs) → (x ≡ m) ⊎ In x xs
  insert_cases m [] d = inl (Memᴰ.eq_of_singleton d)
  insert_cases {x} m (y ∷ ys) d = cond_both (ltb (key m) (key y)) (m ∷ y ∷ ys) (y ∷ insert m ys) (λ l. In x l → (x ≡ m) ⊎ In x (y ∷ ys)) (λ _. front) (λ _. behind (insert_cases m ys)) d
    where
      front : In x (m ∷ y ∷ ys) → (x ≡ m) ⊎ In x (y ∷ ys)
      front (Memᴰ.head e) = inl e
      front (Memᴰ.tail a) = inr a

      later : (x ≡ m) ⊎ In x ys → (x ≡ m) ⊎ In x (y ∷ ys)
      later (inl e) = inl e
      later (inr a) = inr (Memᴰ.tail a)

      behind : (In x (insert m ys) → (x ≡ m) ⊎ In x ys) → In x (y ∷ insert m ys) → (x ≡ m) ⊎ In x (y ∷ ys)
      behind f (Memᴰ.head e) = inr (Memᴰ.head e)
      behind f (Memᴰ.tail a) = later (f a)

  pub mem_insert : {x : X} (m : X) (xs : List X) → In x xs → In x (insert m xs)
  mem_insert m [] d = elim d [ ]
  mem_insert {x} m (y ∷ ys) d = cond_both (ltb (key m) (key y)) (m ∷ y ∷ ys) (y ∷ insert m ys) (λ l. In x l) (λ _. Memᴰ.tail d) (λ _. behind (mem_insert m ys) d)
    where
      behind : (In x ys → In x (insert m ys)) → In x (y ∷ ys) → In x (y ∷ insert m ys)
      behind f (Memᴰ.head e) = Memᴰ.head e
      behind f (Memᴰ.tail a) = Memᴰ.tail (f a)

  pub mem_inserted : (m : X) (xs : List X) → In m (insert m xs)
  mem_inserted m [] = Memᴰ.head refl
  mem_inserted m (y ∷ ys) = cond_both (ltb (key m) (key y)) (m ∷ y ∷ ys) (y ∷ insert m ys) (λ l. In m l) (λ _. Memᴰ.head refl) (λ _. Memᴰ.tail (mem_inserted m ys))

  pub all_insert : (P : X → Type 0) (m : X) (xs : List X) → P m → AllByRecursion P xs → AllByRecursion P (insert m xs)
  all_insert P m [] p h = (p, tt)
  all_insert P m (y ∷ ys) p h = cond_both (ltb (key m) (key y)) (m ∷ y ∷ ys) (y ∷ insert m ys) (AllByRecursion P) (λ _. (p, h)) (λ _. (h.0, all_insert P m ys p h.1))

  pub sorted_insert : (m : X) (xs : List X) → Sorted xs → ((y : X) → In y xs → key y ≡ key m → ⊥) → Sorted (insert m xs)
  sorted_insert m [] h n = (tt, tt)
  sorted_insert m (y ∷ ys) h n = cond_both (ltb (key m) (key y)) (m ∷ y ∷ ys) (y ∷ insert m ys) Sorted
      (λ e. let k = ltb-true (key m) (key y) e in ((k, All-weaker (λ z. key y < key z) (λ z. key m < key z) (λ z a. omega (arith, a, k)) ys h.0), h))
      (λ e. let k = ltb-false (key m) (key y) e in let a = n y (Memᴰ.head refl) in (all_insert (λ z. key y < key z) m ys (omega (arith, k, a)) h.0, sorted_insert m ys h.1 (λ z d. n z (Memᴰ.tail d))))

  pub insert_front : (m : X) (xs : List X) → AllByRecursion (λ y. key m < key y) xs → insert m xs ≡ m ∷ xs
  insert_front m [] h = refl
  insert_front m (y ∷ ys) h = cond-true (ltb (key m) (key y)) (m ∷ y ∷ ys) (y ∷ insert m ys) (lt-ltb (key m) (key y) h.0)

  pub insert_append : (m : X) (xs ys : List X) → ((b : X) → In b xs → key b < key m) → insert m (xs ++ ys) ≡ xs ++ insert m ys
  insert_append m [] ys h = refl
  insert_append m (x ∷ xs) ys h =
      let k = h x (Memᴰ.head refl) in
      cond-false (ltb (key m) (key x)) (m ∷ x ∷ (xs ++ ys)) (x ∷ insert m (xs ++ ys)) (le-ltb (key m) (key x) (omega (arith, k)))
      ∙ ap (λ l. x ∷ l) (insert_append m xs ys (λ b d. h b (Memᴰ.tail d)))

  -- what comes after all stands last
  pub insert_last : (m : X) (xs : List X) → ((b : X) → In b xs → key b < key m) → insert m xs ≡ xs ++ (m ∷ [])
  insert_last m xs h = ap (insert m) (sym (append-nil xs)) ∙ insert_append m xs [] h

  pub kept_insert : (t : X → Bool) (m : X) (xs : List X) → Sorted xs → t m ≡ true → filter t (insert m xs) ≡ insert m (filter t xs)
  kept_insert t m [] s is = cond-true (t m) (m ∷ []) [] is
  kept_insert t m (y ∷ ys) s is = cond_both (ltb (key m) (key y)) (m ∷ y ∷ ys) (y ∷ insert m ys) (λ l. filter t l ≡ insert m (filter t (y ∷ ys)))
      (λ e. let k = ltb-true (key m) (key y) e in cond-true (t m) (m ∷ filter t (y ∷ ys)) (filter t (y ∷ ys)) is ∙ sym (insert_front m (filter t (y ∷ ys)) (all_kept_by t (λ z. key m < key z) (y ∷ ys) (k, All-weaker (λ z. key y < key z) (λ z. key m < key z) (λ z a. omega (arith, a, k)) ys s.0))))
      (λ e. behind (t y) e (kept_insert t m ys s.1 is))
    where
      behind : (b : Bool) → ltb (key m) (key y) ≡ false → filter t (insert m ys) ≡ insert m (filter t ys) → cond b (y ∷ filter t (insert m ys)) (filter t (insert m ys)) ≡ insert m (cond b (y ∷ filter t ys) (filter t ys))
      behind true e ih = ap (λ l. y ∷ l) ih ∙ sym (cond-false (ltb (key m) (key y)) (m ∷ y ∷ filter t ys) (y ∷ insert m (filter t ys)) e)
      behind false e ih = ih

  pub kept_insert_not : (t : X → Bool) (m : X) (xs : List X) → t m ≡ false → filter t (insert m xs) ≡ filter t xs
  kept_insert_not t m [] is = cond-false (t m) (m ∷ []) [] is
  kept_insert_not t m (y ∷ ys) is = cond_both (ltb (key m) (key y)) (m ∷ y ∷ ys) (y ∷ insert m ys) (λ l. filter t l ≡ filter t (y ∷ ys))
      (λ _. cond-false (t m) (m ∷ filter t (y ∷ ys)) (filter t (y ∷ ys)) is)
      (λ _. ap (λ l. cond (t y) (y ∷ l) l) (kept_insert_not t m ys is))

  -- of a sorted list, those up to a bound stand in front of the others
  pub cut_front : (c : ℕ) (xs : List X) → Sorted xs → filter (λ x. leb (key x) c) xs ++ filter (λ x. not (leb (key x) c)) xs ≡ xs
  cut_front c [] h = refl
  cut_front c (x ∷ xs) h = step (leb (key x) c) refl (cut_front c xs h.1)
    where
      above : leb (key x) c ≡ false → (y : X) → In y xs → leb (key y) c ≡ false
      above e y d =
          let k = leb-false (key x) c e in
          let l : key x < key y = all_mem (λ z. key x < key z) xs h.0 d in
          lt-leb (key y) c (omega (arith, k, l))

      step : (b : Bool) → leb (key x) c ≡ b → filter (λ x. leb (key x) c) xs ++ filter (λ x. not (leb (key x) c)) xs ≡ xs → cond b (x ∷ filter (λ x. leb (key x) c) xs) (filter (λ x. leb (key x) c) xs) ++ cond (not b) (x ∷ filter (λ x. not (leb (key x) c)) xs) (filter (λ x. not (leb (key x) c)) xs) ≡ x ∷ xs
      step true e ih = ap (λ l. x ∷ l) ih
      step false e ih =
          ap (λ l. l ++ (x ∷ filter (λ x. not (leb (key x) c)) xs)) (kept_none (λ x. leb (key x) c) xs (above e))
          ∙ ap (λ l. x ∷ l) (kept_all (λ x. not (leb (key x) c)) xs (λ y d. ap not (above e y d)))

-- where the order is that of the number, the place is too
pub placed_insert : {X : Type 0} (before : X → X → Bool) (key : X → ℕ) (x : X) (xs : List X) → ((y : X) → In y xs → before x y ≡ ltb (key x) (key y)) → placed before x xs ≡ insert key x xs
placed_insert before key x [] h = refl
placed_insert before key x (y ∷ ys) h = rw (h y (Memᴰ.head refl)) (ap (λ l. cond (ltb (key x) (key y)) (x ∷ y ∷ ys) (y ∷ l)) (placed_insert before key x ys (λ z d. h z (Memᴰ.tail d))))
