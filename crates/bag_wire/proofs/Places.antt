-- A sound journal has at most 448 entries: 56 lines of 8. Assumes nothing.
use Rattle.std.proofs.Common.{◌≡◌, ℕ, zero, suc, ◌+◌, ◌*◌, ◌/◌, ◌%◌, ◌<◌, ◌≤◌, Bool, true, false, cond, eqb, leb, List, [], ◌∷◌, length, get_or, sum_by, count_by, refl, ap, ⊎_elim, arith}
use Rattle.std.specs.List.{range_with_len, AllByRecursion}
use Rattle.std.proofs.ByRecursion.{All-from_get_or}
use Rattle.std.proofs.lemmas.List.Sums.{sum_by-cons, length-filter, get_or-le-sum_by}
use Rattle.std.proofs.lemmas.Bool.{cases_Bool, cond-true, cond-false, eqb-true, lt-leb, le-leb}
use Rattle.std.proofs.lemmas.Bool.Decides.{nat_tests}
use Rattle.wires.specs.Lines.{is_line, depth_of}
use Rattle.wires.proofs.LineLaws.{line_ports}
use Rattle.bag_wire.specs.declared.entry.Entry.{Entry}
use Rattle.bag_wire.specs.Journals.{on, Sound}
use Rattle.bag_wire.proofs.JournalLaws.{blank, on_from}

abbrev place : Entry → ℕ
place e = e.ends.from * 8 + e.ends.to

abbrev past : ℕ → Entry → Bool
past n e = leb n (place e)

abbrev at : ℕ → Entry → Bool
at n e = eqb n (place e)

abbrev depth_at : ℕ → ℕ
depth_at k = depth_of 8 (k / 8) (k % 8)

abbrev Valid : Entry → Type 0
Valid e = (e.ends.from < 8) × (e.ends.to < 8)

depth_line : (p q : ℕ) → 1 ≤ depth_of 8 p q → (p < 8) × (q < 8)
depth_line p q h =
    ⊎_elim
    (λ (t : is_line p q ≡ true). let b = line_ports p q t in (b.0, b.1))
    (λ (f : is_line p q ≡ false). absurd (omega (arith, cond-false {A = ℕ} (is_line p q) 8 0 f)))
    (cases_Bool (is_line p q))

valid : (es : List Entry) → Sound es → AllByRecursion Valid es
valid es s = All-from_get_or Valid es blank (λ i h.
    let e = get_or es i blank in
    let one = cond-true {A = ℕ} (on e.ends.from e.ends.to e) 1 0 (on_from e e.ends.from e.ends.to refl refl) in
    let some = get_or-le-sum_by (λ x. cond (on e.ends.from e.ends.to x) 1 0) es i blank h in
    depth_line e.ends.from e.ends.to (omega (arith, one, some, length-filter (on e.ends.from e.ends.to) es, s e.ends.from e.ends.to)))

split_one : (n m : ℕ) → cond (leb n m) 1 0 ≡ cond (eqb n m) 1 0 + cond (leb (n + 1) m) 1 0
split_one n m = grind (arith, nat_tests)

peel : (n : ℕ) (es : List Entry) → count_by (past n) es ≡ count_by (at n) es + count_by (past (n + 1)) es
peel n [] = refl
peel n (e ∷ es) =
    omega (arith, sum_by-cons (λ x. cond (past n x) 1 0) e es, sum_by-cons (λ x. cond (at n x) 1 0) e es, sum_by-cons (λ x. cond (past (n + 1) x) 1 0) e es, split_one n (place e), peel n es)

one_le : (n : ℕ) (e : Entry) → Valid e → cond (at n e) 1 0 ≤ cond (on (n / 8) (n % 8) e) 1 0
one_le n e v =
    ⊎_elim
    (λ (t : at n e ≡ true).
    let m = eqb-true n (place e) t in
    let o = cond-true {A = ℕ} (on (n / 8) (n % 8) e) 1 0 (on_from e (n / 8) (n % 8) (omega arith) (omega arith)) in
    omega (arith, o, cond-true {A = ℕ} (at n e) 1 0 t))
    (λ (f : at n e ≡ false). omega (arith, cond-false {A = ℕ} (at n e) 1 0 f))
    (cases_Bool (at n e))

class_le : (n : ℕ) (es : List Entry) → AllByRecursion Valid es → count_by (at n) es ≤ count_by (on (n / 8) (n % 8)) es
class_le n [] v = omega arith
class_le n (e ∷ es) v =
    omega (arith, sum_by-cons (λ x. cond (at n x) 1 0) e es, sum_by-cons (λ x. cond (on (n / 8) (n % 8) x) 1 0) e es, one_le n e v.0, class_le n es v.1)

none_past : (es : List Entry) → AllByRecursion Valid es → count_by (past 64) es ≡ 0
none_past [] v = refl
none_past (e ∷ es) v =
    omega (arith, sum_by-cons (λ x. cond (past 64 x) 1 0) e es, cond-false {A = ℕ} (past 64 e) 1 0 (lt-leb 64 (place e) (omega (arith, v.0.0, v.0.1))), none_past es v.1)

all_past : (es : List Entry) → count_by (past 0) es ≡ length es
all_past [] = refl
all_past (e ∷ es) =
    omega (arith, sum_by-cons (λ x. cond (past 0 x) 1 0) e es, cond-true {A = ℕ} (past 0 e) 1 0 (le-leb 0 (place e) (omega arith)), all_past es)

bound : (es : List Entry) → Sound es → AllByRecursion Valid es → (m n : ℕ) → n + m ≡ 64 → count_by (past n) es ≤ sum_by depth_at (range_with_len n m)
bound es s v zero n e =
    let n64 : n ≡ 64 = omega arith in
    omega (arith, ap (λ k. count_by (past k) es) n64, none_past es v)
bound es s v (suc m) n e =
    omega (arith, peel n es, class_le n es v, length-filter (on (n / 8) (n % 8)) es, s (n / 8) (n % 8), bound es s v m (n + 1) (omega arith), sum_by-cons depth_at n (range_with_len (n + 1) m))

pub short : (es : List Entry) → Sound es → length es ≤ 448
short es s = let total : sum_by depth_at (range_with_len 0 64) ≡ 448 = refl in omega (arith, all_past es, bound es s (valid es s) 64 0 refl, total)
