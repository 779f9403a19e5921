-- The laws of the two rules. Assumes nothing.
use Rattle.std.specs.Prelude.{◌≡◌, ℕ, ◌<◌, ◌≤◌, true, false, ◌||◌, [], ◌∷◌, ◌++◌, length, ◌==◌, ◌≢◌, nat_le, refl}
use Rattle.std.proofs.Common.{sym, ap, ◌∙◌, subst, lit<, zero-le, le_trans, lt_irrefl, add-one}
use Rattle.std.proofs.lemmas.List.{length_push}
use Rattle.std.proofs.lemmas.Bool.{cond_both, le-leb, leb-true, leb-false, or_parts, or_from, ne_eqb, eqb-false}
use Rattle.records.specs.declared.notice.Action.TheVariants.{Take, Leave}
use Rattle.boards.specs.declared.outcome.Outcome.TheVariants.{Alongside, Gone, Clash, Waits}
use Rattle.boards.specs.Rules.{outcome_number, Vessels, Turn, listed, once, without, Leaves, FirstStays, StaysOnce, ClashIsSame, StaysHeld}
use Rattle.boards.specs.Kinds.{clash, berthed, left, taken_last, first_come, queue, at_most}
use Rattle.boards.specs.Shown.{Proper}
use Rattle.boards.specs.Places.{alone}
use Rattle.boards.specs.ListLaws.{without_other, not_listed_without, once_without, without_listed, shorter, once_push, not_empty, push_longer}

-- the outcome is a clash exactly when the list is that one
abbrev Exact : Vessels → Turn → Type 0
Exact l t = (t.outcome ≡ Clash → t.list ≡ l) × (t.list ≡ l → t.outcome ≡ Clash)

exact_clash : (l : Vessels) → Exact l (clash l)
exact_clash l = (λ _. refl, λ _. refl)

-- a list that changed, and no clash
exact_other : (l : Vessels) (t : Turn) → (t.outcome ≢ Clash) → (t.list ≢ l) → Exact l t
exact_other l t free ne = (λ e. absurd (free e), λ e. absurd (ne e))

gone_no_clash : Gone ≡ Clash → ⊥
gone_no_clash e = let n : 2 ≡ 3 = ap outcome_number e in lt_irrefl 2 (subst (λ m. 2 < m) (sym n) (lit< tt))

waits_no_clash : Waits ≡ Clash → ⊥
waits_no_clash e = let n : 4 ≡ 3 = ap outcome_number e in lt_irrefl 3 (subst (λ m. 3 < m) n (lit< tt))

alongside_no_clash : Alongside ≡ Clash → ⊥
alongside_no_clash e = let n : 1 ≡ 3 = ap outcome_number e in lt_irrefl 1 (subst (λ m. 1 < m) (sym n) (lit< tt))

-- what holds of both ways of a leave
pub by_left : (P : Turn → Type 0) (l : Vessels) (v : ℕ) → (listed v l ≡ true → P (record { list = without v l; outcome = Gone })) → (listed v l ≡ false → P (clash l)) → P (left l v)
by_left P l v = cond_both (listed v l) (record { list = without v l; outcome = Gone }) (clash l) P

leaves_left : (l : Vessels) (v : ℕ) → listed v (left l v).list ≡ false
leaves_left l v = by_left (λ t. listed v t.list ≡ false) l v (λ _. not_listed_without v l) (λ free. free)

first_left : (x : ℕ) (xs : Vessels) (v : ℕ) → (v ≢ x) → (ys : Vessels) × ((left (x ∷ xs) v).list ≡ x ∷ ys)
first_left x xs v ne = by_left (λ t. (ys : Vessels) × (t.list ≡ x ∷ ys)) (x ∷ xs) v (λ _. (without v xs, without_other v x xs ne)) (λ _. (xs, refl))

once_left : (l : Vessels) (v : ℕ) → once l ≡ true → once (left l v).list ≡ true
once_left l v h = by_left (λ t. once t.list ≡ true) l v (λ _. once_without v l h) (λ _. h)

exact_left : (l : Vessels) (v : ℕ) → Exact l (left l v)
exact_left l v = by_left (Exact l) l v (λ there. exact_other l _ gone_no_clash (without_listed v l there)) (λ _. exact_clash l)

held_left : (n : ℕ) (l : Vessels) (v : ℕ) → at_most n l ≡ true → at_most n (left l v).list ≡ true
held_left n l v h = by_left (λ t. at_most n t.list ≡ true) l v (λ _. le-leb (length (without v l)) n (le_trans (shorter v l) (leb-true (length l) n h))) (λ _. h)

exact_berthed : (v : ℕ) → Exact [] (berthed v)
exact_berthed v = exact_other [] (berthed v) alongside_no_clash (λ e. not_empty v [] e)

-- ---- first come

pub first_come_leaves : Leaves (at_most 1) first_come
first_come_leaves l v _ _ = leaves_left l v

pub first_come_first : FirstStays (at_most 1) first_come
first_come_first x xs Take v _ _ _ = (xs, refl)
first_come_first x xs Leave v _ _ other = first_left x xs v (λ e. other (refl, e))

pub first_come_once : StaysOnce (at_most 1) first_come
first_come_once [] Take v f _ = refl
first_come_once (x ∷ xs) Take v f _ = f.1
first_come_once l Leave v f _ = once_left l v f.1

pub first_come_clash : ClashIsSame (at_most 1) first_come
first_come_clash [] Take v _ _ = exact_berthed v
first_come_clash (x ∷ xs) Take v _ _ = exact_clash (x ∷ xs)
first_come_clash l Leave v _ _ = exact_left l v

pub first_come_held : StaysHeld (at_most 1) first_come
first_come_held [] Take v f _ = refl
first_come_held (x ∷ xs) Take v f _ = f.0
first_come_held l Leave v f _ = held_left 1 l v f.0

-- ---- queue

-- what holds of both ways of a take on a list that is not empty
pub by_last : (P : Turn → Type 0) (x : ℕ) (xs : Vessels) (v : ℕ) → P (clash (x ∷ xs)) → (listed v (x ∷ xs) ≡ false → length (x ∷ xs) < 4 → P (record { list = x ∷ xs ++ v ∷ []; outcome = Waits })) → P (taken_last (x ∷ xs) v)
by_last P x xs v stays grows =
    let l : Vessels = x ∷ xs in
    cond_both (listed v l || nat_le 4 (length l)) (clash l) (record { list = l ++ v ∷ []; outcome = Waits }) P (λ _. stays) (λ free. let p = or_parts (listed v l) (nat_le 4 (length l)) free in grows p.0 (leb-false 4 (length l) p.1))

pub queue_leaves : Leaves (at_most 4) queue
queue_leaves l v _ _ = leaves_left l v

pub queue_first : FirstStays (at_most 4) queue
queue_first x xs Take v _ _ _ = by_last (λ t. (ys : Vessels) × (t.list ≡ x ∷ ys)) x xs v (xs, refl) (λ _ _. (xs ++ v ∷ [], refl))
queue_first x xs Leave v _ _ other = first_left x xs v (λ e. other (refl, e))

pub queue_once : StaysOnce (at_most 4) queue
queue_once [] Take v f _ = refl
queue_once (x ∷ xs) Take v f _ = by_last (λ t. once t.list ≡ true) x xs v f.1 (λ free _. once_push v (x ∷ xs) f.1 free)
queue_once l Leave v f _ = once_left l v f.1

pub queue_clash : ClashIsSame (at_most 4) queue
queue_clash [] Take v _ _ = exact_berthed v
queue_clash (x ∷ xs) Take v _ _ = by_last (Exact (x ∷ xs)) x xs v (exact_clash (x ∷ xs)) (λ _ _. exact_other (x ∷ xs) _ waits_no_clash (push_longer v (x ∷ xs)))
queue_clash l Leave v _ _ = exact_left l v

pub queue_held : StaysHeld (at_most 4) queue
queue_held [] Take v f _ = refl
queue_held (x ∷ xs) Take v f _ = by_last (λ t. at_most 4 t.list ≡ true) x xs v f.0 (λ _ few. le-leb (length (x ∷ xs ++ v ∷ [])) 4 (subst (λ n. n ≤ 4) (sym (length_push (x ∷ xs) v ∙ add-one (length (x ∷ xs)))) few))
queue_held l Leave v f _ = held_left 4 l v f.0

pub proper_none : (n : ℕ) → Proper (at_most n) []
proper_none n = record { held = le-leb 0 n zero-le; apart = refl; named = refl }

pub proper_alone : (v : ℕ) → Proper (at_most 1) (alone v)
proper_alone v = cond_both (v == 0) [] (v ∷ []) (Proper (at_most 1)) (λ _. proper_none 1) (λ some. record { held = refl; apart = refl; named = or_from (0 == v) false (ne_eqb 0 v (λ e. eqb-false v 0 some (sym e))) refl })
