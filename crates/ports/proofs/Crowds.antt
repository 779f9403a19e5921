-- Counts by source, and the room that at most eight of each of eight ports leave. Assumes nothing.
use Rattle.std.proofs.Common.{◌≡◌, ℕ, zero, suc, ◌+◌, ◌*◌, ◌<◌, ◌≤◌, Bool, true, false, cond, eqb, ltb, List, [], ◌∷◌, length, Some, None, Option, sym, refl, ap, ◌∙◌, ⊎_elim, arith}
use Rattle.std.proofs.lemmas.Bool.{cond-true, cond-false, cond_both, cases_eq, cases_Bool, eq-eqb, ne_eqb, lt-ltb, le-ltb, and_parts}
use Rattle.std.proofs.lemmas.Bool.Decides.{nat_tests}
use Rattle.ordered.specs.Orders.{all_pass, placed}
use Rattle.ordered.specs.Sorted.{entries_of, TookFirst}
use Rattle.ordered.specs.declared.entry.Entry.{Ghosts}
use Rattle.ordered.specs.declared.sorted.Sorted.{Sorted}
use Rattle.ordered.proofs.Rises.{all_placed}
use Rattle.records.specs.Keys.{decided_before}
use Rattle.records.specs.declared.notice.Decided.{Decided}
use Rattle.model.specs.Batches.{count_from}

-- the stamp is of one of the eight ports
abbrev pub known : Decided → Bool
known d = ltb d.stamp.port 8

abbrev one : ℕ → Decided → ℕ
one p x = cond (eqb x.stamp.port p) 1 0

pub count_cons : (p : ℕ) (x : Decided) (xs : List Decided) → count_from p (x ∷ xs) ≡ count_from p xs + one p x
count_cons p x xs =
    ⊎_elim
    (λ (e : eqb x.stamp.port p ≡ true). rw e (omega arith))
    (λ (e : eqb x.stamp.port p ≡ false). rw e (omega arith))
    (cases_Bool (eqb x.stamp.port p))

pub count_placed : (before : Decided → Decided → Bool) (p : ℕ) (x : Decided) (xs : List Decided) → count_from p (placed before x xs) ≡ count_from p xs + one p x
count_placed before p x [] = count_cons p x []
count_placed before p x (y ∷ ys) =
    cond_both (before x y) (x ∷ y ∷ ys) (y ∷ placed before x ys) (λ zs. count_from p zs ≡ count_from p (y ∷ ys) + one p x)
    (λ e. count_cons p x (y ∷ ys))
    (λ e. omega (arith, count_cons p y (placed before x ys), count_placed before p x ys, count_cons p y ys))

-- the crowd, port by port
abbrev total_below : ℕ → List Decided → ℕ
total_below zero xs = 0
total_below (suc n) xs = total_below n xs + count_from n xs

total_none : (n : ℕ) → total_below n [] ≡ 0
total_none zero = refl
total_none (suc n) = omega (arith, total_none n)

total_cons : (n : ℕ) (x : Decided) (xs : List Decided) → total_below n (x ∷ xs) ≡ total_below n xs + cond (ltb x.stamp.port n) 1 0
total_cons zero x xs = sym (ap (λ b. 0 + cond b 1 0) (le-ltb x.stamp.port 0 (omega arith)))
total_cons (suc n) x xs = let rest = total_cons n x xs in let e = count_cons n x xs in grind (arith, nat_tests)

total_length : (xs : List Decided) → all_pass known xs ≡ true → length xs ≡ total_below 8 xs
total_length [] h = sym (total_none 8)
total_length (x ∷ xs) h =
    let both = and_parts (known x) (all_pass known xs) h in
    let here : cond {A = ℕ} (known x) 1 0 ≡ 1 = cond-true (known x) 1 0 both.0 in
    omega (arith, here, total_length xs both.1, total_cons 8 x xs)

total_le : (xs : List Decided) → ((p : ℕ) → count_from p xs ≤ 8) → (n : ℕ) → total_below n xs ≤ 8 * n
total_le xs each zero = omega arith
total_le xs each (suc n) = omega (arith, total_le xs each n, each n)

total_but : (xs : List Decided) → ((p : ℕ) → count_from p xs ≤ 8) → (p n : ℕ) → p < n → total_below n xs + 8 ≤ 8 * n + count_from p xs
total_but xs each p zero h = absurd (omega arith)
total_but xs each p (suc n) h =
    ⊎_elim
    (λ (e : p ≡ n). omega (arith, total_le xs each n, ap (λ i. count_from i xs) e))
    (λ (ne : p ≡ n → ⊥). omega (arith, total_but xs each p n (omega arith), each n))
    (cases_eq p n)

-- where at most eight of each of the eight ports wait, and with n more at most eight of p, there is room for the n
pub crowd : (xs : List Decided) → all_pass known xs ≡ true → ((p : ℕ) → count_from p xs ≤ 8) → (p n : ℕ) → p < 8 → count_from p xs + n ≤ 8 → length xs + n ≤ 64
crowd xs ports each p n low h = omega (arith, total_length xs ports, total_but xs each p 8 low)

-- one more of a port of which fewer than eight wait leaves at most eight of each
pub each_placed : (before : Decided → Decided → Bool) (x : Decided) (xs : List Decided) → ((p : ℕ) → count_from p xs ≤ 8) → count_from x.stamp.port xs < 8 → (p : ℕ) → count_from p (placed before x xs) ≤ 8
each_placed before x xs each room p =
    let sum = count_placed before p x xs in
    ⊎_elim
    (λ (e : x.stamp.port ≡ p). omega (arith, sum, ap (λ i. count_from i xs) e, cond-true {A = ℕ} (eqb x.stamp.port p) 1 0 (eq-eqb _ _ e)))
    (λ (ne : x.stamp.port ≡ p → ⊥). omega (arith, sum, each p, cond-false {A = ℕ} (eqb x.stamp.port p) 1 0 (ne_eqb _ _ ne)))
    (cases_eq x.stamp.port p)

-- what a waiting list keeps when a notice joins
module _ (x : Decided) (old new : List Decided) (put : new ≡ placed decided_before x old) where
  pub known_joined : all_pass known old ≡ true → x.stamp.port < 8 → all_pass known new ≡ true
  known_joined h low = ap (all_pass known) put ∙ all_placed decided_before x known old h (lt-ltb x.stamp.port 8 low)

  pub crowds_joined : ((p : ℕ) → count_from p old ≤ 8) → count_from x.stamp.port old < 8 → (p : ℕ) → count_from p new ≤ 8
  crowds_joined each room p = omega (arith, ap (count_from p) put, each_placed decided_before x old each room p)

-- what a waiting list keeps when its first leaves
module _ (x : Decided) (old new : List Decided) (taken : old ≡ x ∷ new) where
  pub known_left : all_pass known old ≡ true → all_pass known new ≡ true
  known_left h = (and_parts (known x) (all_pass known new) (ap (all_pass known) (sym taken) ∙ h)).1

  pub crowds_left : ((p : ℕ) → count_from p old ≤ 8) → (p : ℕ) → count_from p new ≤ 8
  crowds_left each p = omega (arith, each p, ap (count_from p) taken, count_cons p x new)

-- what it keeps when its first is taken, if there is one
module _ {order : Ghosts Decided} (old new : Sorted Decided 64 order) where
  pub known_after : (r : Option Decided) → TookFirst old new r → all_pass known (entries_of old) ≡ true → all_pass known (entries_of new) ≡ true
  known_after (Some x) e h = known_left x (entries_of old) (entries_of new) e h
  known_after None e h = ap (λ s. all_pass known (entries_of s)) e.1 ∙ h

  pub crowds_after : (r : Option Decided) → TookFirst old new r → ((p : ℕ) → count_from p (entries_of old) ≤ 8) → (p : ℕ) → count_from p (entries_of new) ≤ 8
  crowds_after (Some x) e each p = crowds_left x (entries_of old) (entries_of new) e each p
  crowds_after None e each p = omega (arith, each p, ap (λ s. count_from p (entries_of s)) e.1)
