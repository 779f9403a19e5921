-- A test of each number below n, in turn and by number. Assumes nothing.
use Rattle.std.proofs.Common.{◌≡◌, ℕ, zero, suc, Bool, true, false, ◌&&◌, [], ◌∷◌, map, sym, refl, ap, ap₂, ◌∙◌, add-one, arith}
use Rattle.std.specs.List.{list_all, range_with_len}
use Rattle.std.proofs.lemmas.List.FromFn.{map-range_with_len_more}
use Rattle.std.proofs.lemmas.List.Folds.{list_all-append, list_all-map}
use Rattle.model.specs.Lists.{every}

and_true : (b : Bool) → (b && true) ≡ b
and_true true = refl
and_true false = refl

-- what `all` over the numbers below n answers
pub every_range : (n : ℕ) (test : ℕ → Bool) → list_all test (range_with_len 0 n) ≡ every n test
every_range zero test = refl
every_range (suc n) test =
    let front = sym (list_all-map (λ b. b) test (range_with_len 0 (suc n))) in
    let last = ap (λ k. map test (range_with_len 0 k)) (sym (add-one n)) ∙ map-range_with_len_more test 0 n n (omega arith) in
    front
    ∙ ap (list_all (λ b. b)) last
    ∙ list_all-append (λ b. b) (map test (range_with_len 0 n)) (test n ∷ [])
    ∙ ap₂ ◌&&◌ (list_all-map (λ b. b) test (range_with_len 0 n) ∙ every_range n test) (and_true (test n))
