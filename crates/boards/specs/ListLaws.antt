-- Lists of vessels: who is listed, and who is left without one. Assumes nothing.
use Rattle.std.specs.Prelude.{◌≡◌, ℕ, ◌≤◌, true, false, not, [], ◌∷◌, ◌++◌, length, ◌==◌, ◌≢◌, refl}
use Rattle.std.proofs.Common.{sym, ap, ◌∙◌, subst, ⊎_elim, le_refl, le_trans, suc-le-suc}
use Rattle.std.proofs.Math.Nat.{le-suc}
use Rattle.std.proofs.lemmas.Bool.{cases_eq, both_ways, eqb-false, eq-eqb, ne_eqb, cond-true, cond-false, and_parts, and_from, or_parts, or_from, or_left, not-true, not_from_true, not_from_false}
use Rattle.boards.specs.Rules.{Vessels, listed, once, without}

-- one list more at the front of what is left
pub without_self : (v : ℕ) (xs : Vessels) → without v (v ∷ xs) ≡ without v xs
without_self v xs = cond-false (not (v == v)) (v ∷ without v xs) (without v xs) (not_from_true (v == v) (eq-eqb v v refl))

pub without_other : (v x : ℕ) (xs : Vessels) → (v ≢ x) → without v (x ∷ xs) ≡ x ∷ without v xs
without_other v x xs ne = cond-true (not (x == v)) (x ∷ without v xs) (without v xs) (not_from_false (x == v) (ne_eqb x v (λ e. ne (sym e))))

-- a property of the list without v, by whether its first is v
pub by_first : (P : Vessels → Type 0) (v x : ℕ) (xs : Vessels) → (v ≡ x → P (without v xs)) → ((v ≢ x) → P (x ∷ without v xs)) → P (without v (x ∷ xs))
by_first P v x xs same other = ⊎_elim (λ e. subst (λ y. P (without v (y ∷ xs))) e (subst P (sym (without_self v xs)) (same e))) (λ ne. subst P (sym (without_other v x xs ne)) (other ne)) (cases_eq v x)

pub not_listed_without : (v : ℕ) (xs : Vessels) → listed v (without v xs) ≡ false
not_listed_without v [] = refl
not_listed_without v (x ∷ xs) = by_first (λ l. listed v l ≡ false) v x xs (λ _. not_listed_without v xs) (λ ne. or_from (v == x) (listed v (without v xs)) (ne_eqb v x ne) (not_listed_without v xs))

pub unlisted_without : (v y : ℕ) (xs : Vessels) → listed y xs ≡ false → listed y (without v xs) ≡ false
unlisted_without v y [] h = refl
unlisted_without v y (x ∷ xs) h =
    let p = or_parts (y == x) (listed y xs) h in
    let rest = unlisted_without v y xs p.1 in
    by_first (λ l. listed y l ≡ false) v x xs (λ _. rest) (λ _. or_from (y == x) (listed y (without v xs)) p.0 rest)

pub once_without : (v : ℕ) (xs : Vessels) → once xs ≡ true → once (without v xs) ≡ true
once_without v [] h = refl
once_without v (x ∷ xs) h =
    let p = and_parts (not (listed x xs)) (once xs) h in
    let rest = once_without v xs p.1 in
    let apart = not_from_false (listed x (without v xs)) (unlisted_without v x xs (not-true (listed x xs) p.0)) in
    by_first (λ l. once l ≡ true) v x xs (λ _. rest) (λ _. and_from (not (listed x (without v xs))) (once (without v xs)) apart rest)

pub shorter : (v : ℕ) (xs : Vessels) → length (without v xs) ≤ length xs
shorter v [] = le_refl 0
shorter v (x ∷ xs) = by_first (λ l. length l ≤ length (x ∷ xs)) v x xs (λ _. le_trans (shorter v xs) (le-suc (length xs))) (λ _. suc-le-suc (shorter v xs))

-- a listed vessel is missed
pub without_listed : (v : ℕ) (xs : Vessels) → listed v xs ≡ true → without v xs ≢ xs
without_listed v xs h e = both_ways (listed v xs) (sym (ap (listed v) e) ∙ not_listed_without v xs) h

pub unlisted_push : (y v : ℕ) (xs : Vessels) → listed y xs ≡ false → (y ≢ v) → listed y (xs ++ v ∷ []) ≡ false
unlisted_push y v [] h ne = or_from (y == v) false (ne_eqb y v ne) refl
unlisted_push y v (x ∷ xs) h ne = let p = or_parts (y == x) (listed y xs) h in or_from (y == x) (listed y (xs ++ v ∷ [])) p.0 (unlisted_push y v xs p.1 ne)

pub once_push : (v : ℕ) (xs : Vessels) → once xs ≡ true → listed v xs ≡ false → once (xs ++ v ∷ []) ≡ true
once_push v [] h free = refl
once_push v (x ∷ xs) h free =
    let p = and_parts (not (listed x xs)) (once xs) h in
    let q = or_parts (v == x) (listed v xs) free in
    and_from (not (listed x (xs ++ v ∷ []))) (once (xs ++ v ∷ [])) (not_from_false (listed x (xs ++ v ∷ [])) (unlisted_push x v xs (not-true (listed x xs) p.0) (λ e. eqb-false v x q.0 (sym e)))) (once_push v xs p.1 q.1)

pub not_empty : (v : ℕ) (xs : Vessels) → v ∷ xs ≢ []
not_empty v xs e = both_ways (listed v (v ∷ xs)) (ap (listed v) e) (or_left (v == v) (listed v xs) (eq-eqb v v refl))

-- the list without its first
abbrev rest_of : Vessels → Vessels
rest_of [] = []
rest_of (x ∷ xs) = xs

pub push_longer : (v : ℕ) (xs : Vessels) → xs ++ v ∷ [] ≢ xs
push_longer v [] e = not_empty v [] e
push_longer v (x ∷ xs) e = push_longer v xs (ap rest_of e)
